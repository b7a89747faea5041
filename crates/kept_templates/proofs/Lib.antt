mod NameLemmas
mod VariableLemmas
mod MemberLemmas
mod OrderLemmas
pub mod KeptLemmas
pub use Rattle.counted_templates.proofs.ListedLemmas
