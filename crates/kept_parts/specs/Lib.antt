pub mod Pieces
pub mod Frames
pub use Rattle.kept_expressions.specs.Kept
pub use Rattle.emitted_declarations.specs.Declared
