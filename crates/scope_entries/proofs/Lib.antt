pub mod AnswerNowLemmas
pub mod ThereNowLemmas
pub mod GoesLemmas
pub mod OwnLemmas
mod LineLemmas
mod TurnLemmas
mod RoundLemmas
pub use Rattle.point_cells.proofs.BodyLemmas
pub use Rattle.point_cells.proofs.SymbolLemmas
pub use Rattle.point_cells.proofs.RawLemmas
pub use Rattle.point_cells.proofs.ValueLemmas
