pub mod Keys
pub mod Summaries
pub mod Walks
