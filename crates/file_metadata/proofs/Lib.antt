mod LoopLemmas
mod OutputLemmas
