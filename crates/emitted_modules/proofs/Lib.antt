pub mod ArgumentLemmas
pub mod ModuleLemmas
pub use Rattle.emitted_resources.proofs.ResourceLemmas
