pub mod Entries
pub use Rattle.point_cells.specs.RawNow
pub use Rattle.point_cells.specs.Symbols
pub use Rattle.point_cells.specs.Values
