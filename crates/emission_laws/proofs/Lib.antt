pub mod SameLemmas
pub mod SettledLemmas
pub mod FillLemmas
pub mod FilledLemmas
