pub mod Defaults
pub mod Links
pub mod Loops
pub mod Kinds
pub mod Files
