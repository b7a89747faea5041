pub mod Facts
pub use Rattle.emitted_files.specs.Files
pub use Rattle.emitted_files.specs.Values
