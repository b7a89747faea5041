mod GivenLemmas
mod LeaveLemmas
pub mod KeepLemmas
pub mod TellLemmas
pub mod OfferLemmas
pub use Rattle.scope_entries.proofs.ValueLemmas
pub use Rattle.scope_entries.proofs.OwnLemmas
pub use Rattle.scope_entries.proofs.GoesLemmas
pub use Rattle.scope_entries.proofs.ThereNowLemmas
pub use Rattle.scope_entries.proofs.AnswerNowLemmas
pub use Rattle.scope_entries.proofs.BodyLemmas
pub use Rattle.scope_entries.proofs.SymbolLemmas
