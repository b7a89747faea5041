pub mod OrderlyLemmas
pub mod SourceLemmas
pub mod CauseLemmas
pub mod CompleteLemmas
pub use Rattle.request_deployments.proofs.RunLemmas
