mod NumberLemmas
mod PartLemmas
pub mod BoundLemmas
mod TreeLemmas
pub mod DeepLemmas
