pub mod Values
pub mod Files
pub use Rattle.source_needs.specs.Dependencies
pub use Rattle.source_needs.specs.Needs
