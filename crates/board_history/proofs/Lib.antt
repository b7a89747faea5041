mod Keeping
pub use Rattle.deploy_histories.proofs.KnownLemmas
pub use Rattle.deploy_histories.proofs.ReadinessLemmas
