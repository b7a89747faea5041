pub mod Marks
pub mod Sites
pub use Rattle.emitted_worlds.specs.Facts
pub use Rattle.emitted_worlds.specs.Files
pub use Rattle.emitted_worlds.specs.Values
