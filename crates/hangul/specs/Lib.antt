pub mod Hangul
pub mod Promises
