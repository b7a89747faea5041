pub mod Filled
pub mod Same
pub use Rattle.declared_table.specs.Seen
pub use Rattle.tree_building.specs.Built
