pub mod GotLemmas
pub mod TextLemmas
pub mod TreeLemmas
pub mod PlainLemmas
pub mod TurnLemmas
pub mod ObjectLemmas
pub mod NestLemmas
pub mod RoundLemmas
pub mod NameLemmas
pub mod PutLemmas
mod OutputLemmas
pub mod TitleLemmas
mod CellLemmas
mod LoopedLemmas
pub use Rattle.expression_values.proofs.Equations
