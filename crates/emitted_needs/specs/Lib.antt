pub mod Tasks
pub mod Needs
pub mod Symbols
pub mod Keys
pub use Rattle.emitted_programs.specs.Sound
