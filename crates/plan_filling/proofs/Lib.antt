pub mod RowLemmas
pub mod StepLemmas
pub mod ChangeLemmas
pub mod WayLemmas
pub mod FinalLemmas
pub mod LimitLemmas
pub use Rattle.plan_cells.proofs.ListLemmas
pub use Rattle.plan_cells.proofs.SameLemmas
