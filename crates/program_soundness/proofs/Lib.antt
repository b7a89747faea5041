pub mod PartLemmas
pub mod FileLemmas
