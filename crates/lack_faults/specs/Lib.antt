pub mod Lacks
pub use Rattle.plan_elements.specs.Elements
