pub mod RowLemmas
mod LackLemmas
