pub mod Planned
pub use Rattle.plan_assembly.specs.Plans
pub use Rattle.plan_assembly.specs.declared.plan.Plan
pub use Rattle.plan_assembly.specs.declared.plan.Task
