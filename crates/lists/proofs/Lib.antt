pub mod Answers
pub mod Ended
pub mod Injective
pub mod Refusing
pub mod Sharing
pub mod Steps
pub mod Walks
