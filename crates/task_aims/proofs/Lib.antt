mod AimLemmas
pub use Rattle.point_states.proofs.CheckLemmas
pub use Rattle.point_states.proofs.NumberLemmas
