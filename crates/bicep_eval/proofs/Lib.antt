pub mod BoundLemmas
pub mod PartLemmas
pub mod CoalesceLemmas
pub mod RunLemmas
pub mod TruthLemmas
