pub mod NameLemmas
pub mod EachLemmas
mod MadeLemmas
mod PartLemmas
mod ListLemmas
pub mod ListedLemmas
pub mod NestedLemmas
