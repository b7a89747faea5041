pub mod KeptLemmas
pub mod StageLemmas
pub mod DealingLemmas
pub mod PairLemmas
