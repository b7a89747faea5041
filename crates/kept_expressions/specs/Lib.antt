pub mod Limits
pub mod Kept
pub use Rattle.measured_holes.specs.Growth
pub use Rattle.measured_holes.specs.Probes
pub use Rattle.measured_expressions.specs.Spans
