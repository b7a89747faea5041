pub mod Entries
pub mod Outputs
pub mod Repeated
pub mod Names
