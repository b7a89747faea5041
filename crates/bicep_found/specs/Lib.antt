pub mod Found
pub mod Joins
