pub mod Appends
pub mod LinkLemmas
pub mod PlaceLemmas
pub mod OrderLemmas
pub mod FillLemmas
