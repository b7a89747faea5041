pub mod ReadinessLemmas
pub mod StartLemmas
pub use Rattle.plan_cells.proofs.DesiredLemmas
pub use Rattle.plan_cells.proofs.KnownLemmas
pub use Rattle.plan_cells.proofs.ListLemmas
pub use Rattle.plan_cells.proofs.PlanLemmas
pub use Rattle.plan_cells.proofs.PointLemmas
pub use Rattle.plan_cells.proofs.TaskLemmas
