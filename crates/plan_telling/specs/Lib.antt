pub mod Symbols
pub mod Sources
pub use Rattle.plan_sights.specs.Resolved
pub use Rattle.plan_sights.specs.Seats
