pub mod LoopLemmas
pub mod CopyLemmas
