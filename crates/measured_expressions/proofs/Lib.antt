pub mod NameLemmas
pub mod SpanLemmas
