mod FaultLemmas
pub mod ItemLemmas
mod MeasureLemmas
mod PartLemmas
