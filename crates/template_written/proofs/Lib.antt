pub mod SlotLemmas
pub mod BackLemmas
pub mod VariableLemmas
pub mod DescribedLemmas
pub mod KeptLemmas
