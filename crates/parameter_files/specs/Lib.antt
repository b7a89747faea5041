pub mod Files
pub mod Parameters
