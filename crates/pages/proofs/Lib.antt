pub mod Masks
pub mod Words
pub mod Ranks
pub mod Paging
pub mod Reading
pub mod Filling
