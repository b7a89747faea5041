mod ExistingLemmas
mod MetadataLemmas
mod PartLemmas
