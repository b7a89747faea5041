pub mod Lookups
pub mod Numbered
pub use Rattle.plan_numbers.specs.Plans
pub use Rattle.plan_numbers.specs.Plan
pub use Rattle.plan_numbers.specs.Task
pub use Rattle.plan_numbers.specs.Numbers
pub use Rattle.plan_numbers.specs.Planned
