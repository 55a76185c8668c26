pub mod CodePoints
pub mod Collations
pub mod Lists
pub mod Reasons
pub mod Refusals
pub mod Views
