pub mod Elements
pub mod Laws
pub use Rattle.emitted_files.specs.Dependencies
