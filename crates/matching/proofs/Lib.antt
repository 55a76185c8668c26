pub mod Injective
pub mod Ordered
pub mod Repeats
