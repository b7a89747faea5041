pub mod FrontLemmas
pub mod KindLemmas
