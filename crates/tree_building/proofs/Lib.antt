mod NestLemmas
mod GrownLemmas
mod LeftLemmas
pub mod WithinLemmas
mod SizeLemmas
