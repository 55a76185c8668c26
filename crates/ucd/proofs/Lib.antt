pub mod Options
pub mod Walks
pub mod Cutting
pub mod Digits
pub mod Listing
pub mod Titlecase
pub mod Lines
