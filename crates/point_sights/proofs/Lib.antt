mod TellNowLemmas
pub mod BodyLemmas
pub use Rattle.plan_telling.proofs.SymbolLemmas
