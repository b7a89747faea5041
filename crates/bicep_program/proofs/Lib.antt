pub mod EndLemmas
pub mod FileLemmas
pub mod GraphLemmas
pub mod LoadLemmas
pub mod SourceLemmas
