pub mod Words
pub mod Types
pub mod Expressions
pub mod Resources
pub mod Files
