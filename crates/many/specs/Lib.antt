pub mod Many
pub mod Promises
