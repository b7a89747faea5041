pub mod Slots
pub mod Parts
pub mod Written
pub mod Keeps
