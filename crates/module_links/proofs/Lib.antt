pub mod LinkLemmas
pub mod PathLemmas
pub mod StepLemmas
