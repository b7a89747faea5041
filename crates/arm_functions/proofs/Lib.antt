pub mod CallLemmas
pub mod TableLemmas
pub mod UnionLaw
