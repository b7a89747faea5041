pub mod FreshLemmas
pub mod SymbolLemmas
pub mod OutputLemmas
