pub mod Places
pub mod Parameters
pub mod Files
pub mod Entries
