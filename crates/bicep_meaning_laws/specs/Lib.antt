pub mod Ranked
pub mod Reached
pub use Rattle.bicep_circles.specs.Mentions
pub use Rattle.bicep_meaning.specs.Declared
pub use Rattle.bicep_meaning.specs.Files
