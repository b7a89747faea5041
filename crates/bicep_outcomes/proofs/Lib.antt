pub mod OutcomeLemmas
pub mod ListLemmas
pub mod CallLemmas
pub mod AccessLemmas
