pub mod Literals
pub mod Decorators
