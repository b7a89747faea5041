pub mod BodyLemmas
pub mod OneLemmas
