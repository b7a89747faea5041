mod KeyLemmas
mod ListLemmas
pub mod WorkLemmas
