pub mod Levels
pub mod Steps
pub mod TableCheck
pub mod Promises
pub mod Plain
