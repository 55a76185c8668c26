pub mod Going
pub mod Lines
pub mod Reasons
pub mod Taken
