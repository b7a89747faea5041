pub mod ProgramLemmas
pub mod SymbolLemmas
pub mod ValueLemmas
