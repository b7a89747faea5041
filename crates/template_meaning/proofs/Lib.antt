pub mod OnceLemmas
pub mod ValueLemmas
