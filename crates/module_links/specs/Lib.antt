pub mod Paths
pub mod Links
pub mod Linking
