pub mod Growth
pub mod Probes
pub use Rattle.emission_laws.specs.Holes
