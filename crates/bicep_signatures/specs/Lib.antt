pub mod Types
pub mod Kinds
pub mod Signatures
pub mod Table
pub mod Rows
