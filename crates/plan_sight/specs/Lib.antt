pub mod Ready
pub mod Seen
pub use Rattle.plan_cells.specs.Children
pub use Rattle.plan_cells.specs.Meaning
pub use Rattle.plan_cells.specs.Resources
pub use Rattle.plan_cells.specs.Scopes
pub use Rattle.plan_cells.specs.Sites
