pub mod Parents
pub mod Heads
pub mod Made
