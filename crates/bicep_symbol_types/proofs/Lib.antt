pub mod AgreeLemmas
pub mod ListLemmas
pub mod SettleLemmas
pub mod AlongLemmas
