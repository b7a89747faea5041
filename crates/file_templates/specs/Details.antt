-- What a template has beside its meaning, in the words of other crates.
pub use Rattle.source_templates.specs.Counted.{HasFewParts}
pub use Rattle.file_metadata.specs.Files.{IsMetadataOf, output_metadata, symbol_metadata}
pub use Rattle.source_templates.specs.Existing.{HasExisting}
pub use Rattle.source_templates.specs.Metadata.{HasMetadata}
