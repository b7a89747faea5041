pub mod ItemLemmas
mod ListLemmas
pub use Rattle.plan_names.proofs.GatherLemmas
