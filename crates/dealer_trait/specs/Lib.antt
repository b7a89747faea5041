pub mod Kinds
pub mod Notes
pub mod Steps
pub mod Books
