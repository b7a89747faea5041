pub mod WordLemmas
pub mod SpacedLemmas
pub mod LevelLemmas
pub mod RuleLemmas
pub mod SearchLemmas
pub mod PlaceLemmas
pub mod KeepingLemmas
