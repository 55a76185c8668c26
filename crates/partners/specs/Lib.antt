pub mod Groups
pub mod Partners
pub mod Promises
