pub mod Settings
pub mod Copies
pub mod Members
pub mod Singles
