pub mod Files
pub use Rattle.sound_declarations.specs.Few
pub use Rattle.bicep_checks.specs.Faults
