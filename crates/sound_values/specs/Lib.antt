pub mod FewHoles
pub use Rattle.emitted_trees.specs.EmittedTrees
pub use Rattle.emitted_trees.specs.Sound
