pub mod ItemLemmas
pub mod WordLemmas
mod SeenLemmas
