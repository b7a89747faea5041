pub mod Consistent
pub mod Values
pub mod Solved
