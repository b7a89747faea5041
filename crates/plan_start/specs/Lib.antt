pub mod Sheets
pub use Rattle.plan_values.specs.Values
