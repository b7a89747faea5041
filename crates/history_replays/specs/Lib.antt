pub mod Recorded
pub use Rattle.history_laws.specs.Past
