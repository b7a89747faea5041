pub mod KeyLemmas
pub mod DeleteLemmas
