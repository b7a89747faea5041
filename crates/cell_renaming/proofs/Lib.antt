pub mod OptionLemmas
pub mod CellLemmas
pub mod ParentLemmas
pub mod WorldLemmas
pub mod PutLemmas
