pub mod Entries
pub mod Form
pub mod Appending
pub mod Search
pub mod Unreached
