mod ContentLemmas
pub mod KindLemmas
mod PartLemmas
pub use Rattle.filled_tables.proofs.FilledLemmas
pub use Rattle.filled_tables.proofs.SameLemmas
