mod PartLemmas
mod SoughtLemmas
mod SizeLemmas
mod FirstLemmas
mod VariableLemmas
pub mod LimitLemmas
mod ParameterLemmas
mod OutputLemmas
