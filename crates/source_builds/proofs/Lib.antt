pub mod StatusLemmas
pub mod BuildLemmas
