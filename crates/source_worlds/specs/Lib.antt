pub mod Numbers
pub mod Template
pub use Rattle.bicep_meaning.specs.Around
pub use Rattle.bicep_meaning.specs.Declarations
pub use Rattle.bicep_meaning.specs.Declared
pub use Rattle.bicep_meaning.specs.Files
pub use Rattle.bicep_meaning.specs.Instances
pub use Rattle.bicep_meaning.specs.Meaning
