pub mod Resources
pub mod Texts
pub mod CellPaths
