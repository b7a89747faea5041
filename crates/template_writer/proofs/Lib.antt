pub mod ListLemmas
pub mod NestLemmas
pub mod TreeLemmas
