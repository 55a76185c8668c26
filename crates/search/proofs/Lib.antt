pub mod Injective
pub mod Holders
pub mod Runs
pub mod Seeking
pub mod Cover
