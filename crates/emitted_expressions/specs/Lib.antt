pub mod Sight
pub mod Values
pub use Rattle.emitted_parts.specs.Built
pub use Rattle.emitted_parts.specs.Emitted
pub use Rattle.bicep_meaning.specs.Files
