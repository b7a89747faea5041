pub mod SameLemmas
pub mod SettledLemmas
pub mod FineLemmas
pub mod MentionLemmas
pub mod ClosingLemmas
pub mod IdLemmas
