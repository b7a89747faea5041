mod Examples
pub mod FormLemmas
mod NumberLemmas
pub mod ViewLemmas
mod WordLemmas
