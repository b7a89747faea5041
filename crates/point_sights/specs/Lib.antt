pub mod PointSeats
pub use Rattle.plan_telling.specs.Sources
pub use Rattle.plan_telling.specs.Symbols
