pub mod Outputs
pub mod Files
