pub mod Boards
pub mod Kept
pub mod Looks
pub mod Passes
