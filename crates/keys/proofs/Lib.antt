pub mod Bounds
pub mod Collations
pub mod Injective
pub mod Raising
pub mod Shown
pub mod Validity
pub mod Walking
pub mod Walks
