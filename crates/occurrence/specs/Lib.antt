pub mod Promises
pub mod Matches
pub mod Occurrence
pub mod Rows
