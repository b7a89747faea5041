pub mod Seen
pub mod Entries
pub use Rattle.emitted_expressions.specs.Sight
pub use Rattle.ordered_emissions.specs.Known
pub use Rattle.ordered_emissions.specs.Orders
