pub mod Rows
pub mod Looked
