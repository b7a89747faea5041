pub mod SameLemmas
pub mod FilledLemmas
