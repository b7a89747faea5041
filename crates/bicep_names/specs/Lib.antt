pub mod Scope
pub mod Functions
pub mod Resolve
pub mod Parts
pub mod Unknown
