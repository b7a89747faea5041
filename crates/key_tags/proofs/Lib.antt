pub mod CodeLemmas
pub mod PushLemmas
pub mod SameLemmas
