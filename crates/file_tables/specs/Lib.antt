pub mod Checked
pub mod Emittable
pub mod Laws
pub mod Orders
pub mod Tables
pub use Rattle.sound_files.specs.Files
