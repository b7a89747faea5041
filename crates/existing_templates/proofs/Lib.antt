mod ExistingLemmas
pub use Rattle.file_limits.proofs.EachLemmas
pub use Rattle.file_limits.proofs.ListedLemmas
pub use Rattle.file_limits.proofs.NameLemmas
