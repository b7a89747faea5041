pub mod Built
pub mod Words
pub use Rattle.bicep_emission.specs.Emitted
pub use Rattle.bicep_emission.specs.Texts
