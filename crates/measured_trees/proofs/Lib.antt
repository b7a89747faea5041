pub mod WithinLemmas
pub mod NumberLemmas
