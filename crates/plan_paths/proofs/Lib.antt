mod TreeLemmas
pub mod TextLemmas
pub mod NamedLemmas
