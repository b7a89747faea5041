mod ListLemmas
mod EntryLemmas
mod TypeLemmas
mod PartLemmas
mod RunLemmas
pub use Rattle.ordered_emissions.proofs.HeadLemmas
pub use Rattle.ordered_emissions.proofs.HoleLemmas
pub use Rattle.ordered_emissions.proofs.TurnLemmas
