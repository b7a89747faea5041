pub mod Fields
pub mod Spots
pub mod Fronts
