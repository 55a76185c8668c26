pub mod Pairing
pub mod Words
pub mod Promises
