pub mod Rooms
pub mod Rigs
pub mod Tasks
pub mod Deals
pub mod Driven
