pub mod BodyLemmas
pub mod BuildLemmas
