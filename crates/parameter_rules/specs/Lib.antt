pub mod Files
pub mod Kinds
pub mod Literals
pub mod Metadata
pub mod Rules
