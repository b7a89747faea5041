pub use Rattle.arm_plan.specs.Accepted
pub use Rattle.history_plans.specs.Plan
pub use Rattle.history_plans.specs.Planned
pub use Rattle.history_plans.specs.Plans
pub use Rattle.plan_standings.specs.Kept
pub use Rattle.plan_standings.specs.Tells
pub use Rattle.plan_standings.specs.Titles
