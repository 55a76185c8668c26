pub mod Candidates
pub mod Coverage
pub mod Laws
pub mod Matching
pub mod Noting
pub mod Searching
pub mod Shifts
pub mod Skips
