pub mod KeyOrder
pub mod Promises
pub mod Sorted
