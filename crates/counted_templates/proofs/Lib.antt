mod CountLemmas
pub use Rattle.existing_templates.proofs.EachLemmas
pub use Rattle.existing_templates.proofs.ListedLemmas
pub use Rattle.existing_templates.proofs.NameLemmas
