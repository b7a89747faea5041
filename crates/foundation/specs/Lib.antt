pub mod Options
pub mod Stopping
