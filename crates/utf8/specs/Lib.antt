pub mod Characters
pub mod Utf8
pub mod Judging
pub mod Promises
