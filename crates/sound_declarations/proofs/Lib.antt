pub mod BodyLemmas
pub mod CleanLemmas
pub mod DeclaredLemmas
pub mod PlainLemmas
pub use Rattle.sound_values.proofs.FoundLemmas
