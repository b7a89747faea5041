pub mod Alike
pub mod Rest
