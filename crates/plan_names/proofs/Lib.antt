pub mod SpelledLemmas
pub mod GatherLemmas
pub mod AroundLemmas
pub mod LookLemmas
pub use Rattle.plan_nested.proofs.InvertLemmas
pub use Rattle.plan_nested.proofs.SeekLemmas
