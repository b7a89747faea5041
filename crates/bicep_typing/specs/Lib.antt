pub mod Typed
pub mod Operators
pub mod Names
pub mod Typing
