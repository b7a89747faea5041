pub mod PutLemmas
pub mod ItemLemmas
pub mod CollectedLemmas
pub mod TemplateLemmas
pub mod LoopLemmas
pub mod TreeLemmas
pub use Rattle.bicep_emission.proofs.SpelledLemmas
