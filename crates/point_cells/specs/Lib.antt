pub mod RawNow
pub use Rattle.point_sights.specs.Symbols
pub use Rattle.plan_values.specs.Values
