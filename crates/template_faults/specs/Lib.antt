pub mod Header
pub mod Sights
pub mod Properties
pub mod Counts
pub mod Faults
