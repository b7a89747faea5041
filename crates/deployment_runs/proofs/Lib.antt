pub mod RunLemmas
pub mod GivenLemmas
