pub mod FoundLemmas
pub mod GatherLemmas
