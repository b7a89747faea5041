pub mod Extremes
pub mod Measures
pub mod Limits
