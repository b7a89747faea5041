pub mod SymbolLemmas
pub mod TellLemmas
pub use Rattle.plan_places.proofs.PlaceLemmas
pub use Rattle.plan_sights.proofs.FollowLemmas
pub use Rattle.plan_sights.proofs.SightLemmas
