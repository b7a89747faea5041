pub mod CodeLemmas
pub mod NameLemmas
pub mod TaskLemmas
