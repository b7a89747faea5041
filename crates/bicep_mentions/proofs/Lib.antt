pub mod AgreeLemmas
pub mod RankLemmas
pub mod ThroughLemmas
pub mod OrderLemmas
pub use Rattle.bicep_circles.proofs.FillLemmas
