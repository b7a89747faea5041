pub mod CountLemmas
pub mod PartLemmas
pub mod WordLemmas
