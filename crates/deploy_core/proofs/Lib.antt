pub mod OpenLemmas
pub mod StepLemmas
pub mod EndLemmas
pub mod NameLemmas
pub mod PastLemmas
