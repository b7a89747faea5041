pub mod LineLemmas
pub mod SayingLemmas
pub mod RefusalLemmas
