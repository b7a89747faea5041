pub mod ScopeLemmas
pub mod PutLemmas
