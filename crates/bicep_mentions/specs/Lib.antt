pub mod States
pub mod Names
pub mod Entries
pub mod Through
pub mod Agreement
pub use Rattle.bicep_circles.specs.Links
pub use Rattle.bicep_circles.specs.Orders
