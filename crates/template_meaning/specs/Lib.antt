pub mod Values
pub mod Parts
pub mod Resources
pub mod Describes
