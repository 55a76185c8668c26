pub mod Cases
pub mod Magnitudes
pub mod Onward
pub mod Runs
pub mod Values
