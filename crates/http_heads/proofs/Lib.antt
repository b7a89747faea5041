pub mod SpotLemmas
pub mod FrontLemmas
pub mod FieldLemmas
