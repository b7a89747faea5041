pub mod LengthLemmas
mod SizeLemmas
mod PutLemmas
mod TreeLemmas
pub mod NestedLemmas
