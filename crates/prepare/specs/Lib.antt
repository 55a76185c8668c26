pub mod Calls
pub mod Preparing
pub mod Promises
