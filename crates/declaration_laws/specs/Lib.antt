pub mod Sound
pub mod Standing
pub use Rattle.emitted_declarations.specs.Declared
pub use Rattle.bicep_emission.specs.Emittable
pub use Rattle.bicep_emission.specs.Emitted
pub use Rattle.bicep_emission.specs.Spelled
pub use Rattle.bicep_emission.specs.Texts
pub use Rattle.emitted_declarations.specs.ChildTypes
