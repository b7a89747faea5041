pub mod GrowthLemmas
pub mod HoleLemmas
pub mod NumberLemmas
