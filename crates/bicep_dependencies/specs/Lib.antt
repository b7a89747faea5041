pub mod Dependencies
pub mod Steps
