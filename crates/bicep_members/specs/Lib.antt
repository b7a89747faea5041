pub mod Labels
pub mod Steps
pub mod Parts
pub mod Files
