mod FaultLemmas
mod MadeLemmas
pub mod TextLemmas
