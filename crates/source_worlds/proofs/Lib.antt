pub mod ListLemmas
pub mod NumberLemmas
pub mod DeclaredLemmas
pub mod TemplateLemmas
