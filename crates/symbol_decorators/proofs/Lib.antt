pub mod LengthLemmas
pub mod FineLemmas
pub mod SizeLemmas
mod BatchLemmas
