pub mod Elements
pub use Rattle.plan_needs.specs.Lists
pub use Rattle.plan_needs.specs.Needs
