pub mod Answers
pub mod Filled
pub mod Injective
pub mod Walking
