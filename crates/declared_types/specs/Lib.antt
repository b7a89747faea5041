pub mod Types
pub use Rattle.bicep_declared.specs.View
