pub mod Answering
pub mod Beside
pub mod CallRefusals
pub mod Injective
pub mod Paging
pub mod Rooms
pub mod Shown
