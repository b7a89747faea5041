pub mod HeaderLemmas
pub mod RowLemmas
pub mod NestedLemmas
pub mod TemplateLemmas
