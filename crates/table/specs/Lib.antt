pub mod Mapping
pub mod Layout
pub mod Table
pub mod Promises
