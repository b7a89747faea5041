pub mod GivenLemmas
pub mod NameLemmas
