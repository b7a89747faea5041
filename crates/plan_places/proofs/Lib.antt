pub mod PlaceLemmas
pub mod NameLemmas
pub use Rattle.plan_nested.proofs.SeekLemmas
