pub mod DataLemmas
pub mod NoteLemmas
