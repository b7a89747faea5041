pub mod PartLemmas
mod OverLemmas
mod EntryLemmas
mod PrintLemmas
mod HeadLemmas
mod FitLemmas
pub use Rattle.emitted_templates.proofs.ListedLemmas
pub use Rattle.emitted_templates.proofs.EachLemmas
pub use Rattle.emitted_templates.proofs.NameLemmas
