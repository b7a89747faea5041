pub mod Answers
pub mod AccessLemmas
pub mod EvalLemmas
pub mod IdLemmas
pub mod Equations
