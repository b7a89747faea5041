pub mod ChosenLemmas
pub mod ElementLemmas
pub mod LoopLemmas
