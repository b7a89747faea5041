pub mod StatusLemmas
pub mod RequestLemmas
pub use Rattle.template_deployments.proofs.RunLemmas
