pub mod SymbolTypes
pub mod Along
pub mod Outputs
