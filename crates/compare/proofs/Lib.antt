pub mod Calls
pub mod Injective
pub mod Preorder
pub mod Says
