pub mod Sources
pub use Rattle.sound_files.specs.Files
pub use Rattle.declared_table.specs.Seen
pub use Rattle.declared_table.specs.declared.mark.Mark
