pub mod LookLemmas
pub mod ToldLemmas
pub mod RuleLemmas
pub use Rattle.plan_cells.proofs.ListLemmas
pub use Rattle.plan_cells.proofs.ChildLemmas
pub use Rattle.plan_cells.proofs.ApartLemmas
