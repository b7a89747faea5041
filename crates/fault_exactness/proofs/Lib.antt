mod GrowLemmas
mod EmptyLemmas
mod BrokenLemmas
mod UngivenLemmas
pub mod KeyLemmas
pub mod ExactLemmas
mod SumLemmas
mod LimitLemmas
