pub mod Halves
pub mod KeyOrders
pub mod Keys
pub mod Merged
pub mod Recursion
pub mod Sorting
