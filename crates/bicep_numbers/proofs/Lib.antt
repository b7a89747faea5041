pub mod FoundLemmas
pub mod SortLemmas
pub mod WithinLemmas
pub mod FileLemmas
