pub mod KeyLemmas
pub mod HitLemmas
pub mod WordLemmas
