pub mod SideLemmas
pub mod RunLemmas
