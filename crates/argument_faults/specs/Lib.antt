pub mod Extra
pub use Rattle.plan_needs.specs.Lists
pub use Rattle.plan_needs.specs.Needs
pub use Rattle.plan_needs.specs.Numbers
