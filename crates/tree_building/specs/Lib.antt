pub mod Depth
pub mod Each
pub mod Sight
pub mod Built
pub use Rattle.emitted_trees.specs.Emitted
pub use Rattle.emitted_trees.specs.EmittedTrees
pub use Rattle.emitted_trees.specs.Templates
pub use Rattle.emitted_trees.specs.Written
