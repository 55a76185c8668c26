pub mod Builder
pub mod Promises
pub mod Built
