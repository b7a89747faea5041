pub mod Standings
pub mod Failures
pub mod Outputs
pub use Rattle.point_values.specs.Seen
