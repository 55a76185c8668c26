pub mod Ended
pub mod Ending
pub mod Keyed
pub mod Putting
pub mod Room
