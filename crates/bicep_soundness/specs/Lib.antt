pub mod Values
pub mod Calls
pub mod Entries
pub mod Suited
pub mod Sound
