pub mod Spans
pub use Rattle.emitted_expressions.specs.Values
pub use Rattle.emitted_expressions.specs.Sight
pub use Rattle.bicep_emission.specs.Emitted
