pub mod Covering
pub mod Substring
pub mod Promises
