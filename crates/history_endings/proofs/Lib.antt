pub mod Circles
pub mod Causes
