mod BytesLemmas
pub mod FileLemmas
mod FitLemmas
mod ModuleLemmas
mod RefusedLemmas
