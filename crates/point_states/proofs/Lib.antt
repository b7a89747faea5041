pub mod TagLemmas
pub mod TakenLemmas
pub use Rattle.plan_numbers.proofs.NumberLemmas
pub use Rattle.plan_numbers.proofs.CheckLemmas
