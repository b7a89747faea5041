pub mod InvertLemmas
pub mod SeekLemmas
pub mod OutputLemmas
pub use Rattle.plan_listing.proofs.HitLemmas
pub use Rattle.plan_listing.proofs.KeyLemmas
