pub mod LiteralLemmas
pub mod LoopLemmas
pub mod GivenLemmas
