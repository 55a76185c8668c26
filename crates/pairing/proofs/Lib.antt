pub mod Cases
pub mod CutAtTab
pub mod Judging
pub mod Numbers
