pub mod Refusals
pub mod Keys
pub use Rattle.plan_tasks.specs.InOrder
pub use Rattle.plan_tasks.specs.Start
pub use Rattle.plan_tasks.specs.Answered
