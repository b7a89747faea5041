pub mod Templates
pub mod EmittedTrees
pub mod Written
pub mod Sound
pub mod Standing
pub use Rattle.bicep_emission.specs.Emitted
pub use Rattle.bicep_emission.specs.Emittable
