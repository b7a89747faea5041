pub mod Orders
pub mod Known
pub use Rattle.emission_laws.specs.Holes
