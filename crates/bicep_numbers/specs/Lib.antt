pub mod Sorts
pub use Rattle.bicep_circles.specs.Links
pub use Rattle.bicep_circles.specs.Orders
