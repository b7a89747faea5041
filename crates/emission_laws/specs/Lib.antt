pub mod Holes
pub mod Same
pub use Rattle.bicep_meaning_laws.specs.Ranked
pub use Rattle.declaration_laws.specs.Declared
pub use Rattle.declaration_laws.specs.Sound
