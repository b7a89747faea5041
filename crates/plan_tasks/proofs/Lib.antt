pub mod OrderLemmas
pub mod ToldLemmas
pub mod AnswerLemmas
pub mod TableLemmas
pub mod BodyLemmas
pub mod ListLemmas
pub mod KeyLemmas
