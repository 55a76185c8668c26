pub mod Numbers
pub mod Order
pub mod Orders
pub mod Puts
