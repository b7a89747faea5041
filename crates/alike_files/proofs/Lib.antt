pub mod NumberLemmas
mod TemplateLemmas
