pub mod AbsentLemmas
pub mod KindLemmas
pub mod InnerLemmas
