pub mod Matching
pub mod Promises
