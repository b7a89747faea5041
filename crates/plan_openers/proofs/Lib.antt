pub mod OpenerLemmas
pub mod NestedLemmas
pub mod SameLemmas
