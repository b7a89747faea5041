pub mod Kept
pub mod Answers
pub mod MemBooks
pub mod Stages
pub mod Needs
pub mod Dealing
pub mod ScriptedDealers
pub mod Pairs
