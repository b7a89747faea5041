mod CellNowLemmas
pub use Rattle.point_sights.proofs.BodyLemmas
pub use Rattle.point_sights.proofs.SymbolLemmas
pub use Rattle.plan_values.proofs.RawLemmas
pub use Rattle.plan_values.proofs.ValueLemmas
