pub mod View
pub use Rattle.bicep_mentions.specs.Entries
