mod StatesLemmas
mod ProperLemmas
pub use Rattle.template_trips.proofs.HeaderLemmas
pub use Rattle.template_trips.proofs.NestedLemmas
