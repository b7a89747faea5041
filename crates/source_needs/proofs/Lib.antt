pub mod PassingLemmas
pub use Rattle.source_worlds.proofs.NumberLemmas
