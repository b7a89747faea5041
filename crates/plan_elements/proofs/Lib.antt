mod ElementLemmas
pub use Rattle.plan_values.proofs.SiteLemmas
pub use Rattle.plan_needs.proofs.InstanceLemmas
pub use Rattle.plan_needs.proofs.ScopeLemmas
