pub mod ResourceLemmas
pub mod BodyLemmas
