pub mod Numbers
pub mod Kinds
pub mod Items
pub mod Reading
pub mod Writing
pub mod Promises
