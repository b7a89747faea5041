pub mod SymbolLemmas
pub mod FileLemmas
pub mod ReadLemmas
pub mod TokenLemmas
pub mod WordLemmas
mod PartLemmas
