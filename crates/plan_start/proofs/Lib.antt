pub mod AnswerLemmas
mod SheetLemmas
pub use Rattle.plan_values.proofs.RawLemmas
pub use Rattle.plan_values.proofs.SiteLemmas
pub use Rattle.plan_values.proofs.ValueLemmas
