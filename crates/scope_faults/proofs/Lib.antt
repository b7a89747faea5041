mod CircleLemmas
mod EntryLemmas
mod OutputLemmas
pub use Rattle.scope_outputs.proofs.KeepLemmas
pub use Rattle.scope_outputs.proofs.OwnLemmas
pub use Rattle.scope_outputs.proofs.GoesLemmas
pub use Rattle.scope_outputs.proofs.ThereNowLemmas
pub use Rattle.scope_outputs.proofs.BodyLemmas
pub use Rattle.scope_outputs.proofs.SymbolLemmas
