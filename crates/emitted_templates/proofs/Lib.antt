mod MetadataLemmas
mod TemplateLemmas
pub use Rattle.file_lists.proofs.LimitLemmas
pub use Rattle.file_resources.proofs.EachLemmas
pub use Rattle.file_resources.proofs.ListedLemmas
pub use Rattle.file_resources.proofs.NameLemmas
