pub mod LineLemmas
mod ExtraLemmas
pub use Rattle.plan_needs.proofs.InstanceLemmas
pub use Rattle.plan_needs.proofs.NumberLemmas
