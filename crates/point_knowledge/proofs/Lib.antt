pub mod BlankLemmas
pub mod StepLemmas
