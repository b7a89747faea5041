pub mod TextLemmas
pub mod LoopLemmas
pub use Rattle.plan_codes.proofs.TaskLemmas
