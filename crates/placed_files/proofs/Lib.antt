mod NameLemmas
mod FoundLemmas
mod FieldLemmas
mod BodyLemmas
mod VariableLemmas
pub mod FileLemmas
