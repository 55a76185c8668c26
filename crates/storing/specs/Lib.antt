pub mod Ends
pub mod Rooms
pub mod Stored
