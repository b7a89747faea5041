pub mod ArmLemmas
pub mod FunctionLemmas
pub mod PartLemmas
pub mod SymbolLemmas
pub mod UnknownLemmas
