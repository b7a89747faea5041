pub mod OrderLemmas
pub mod ResultLemmas
