pub mod Bulk
pub mod Demands
pub mod Faults
pub mod Lists
pub mod Ranges
pub mod Records
pub mod Widest
