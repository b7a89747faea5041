pub mod TagLemmas
pub mod NumberLemmas
pub mod PairLemmas
