pub mod Numbers
pub mod Steps
pub use Rattle.history_plans.specs.Plans
pub use Rattle.history_plans.specs.Plan
pub use Rattle.history_plans.specs.Task
pub use Rattle.history_plans.specs.Planned
