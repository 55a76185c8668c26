pub mod Injective
pub mod Refusals
pub mod Adding
pub mod Grown
pub mod BuiltForm
pub mod TableProperties
pub mod BuiltMapping
pub mod Cases
