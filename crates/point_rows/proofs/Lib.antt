pub mod RowsNowLemmas
pub mod FixedLemmas
pub mod ToldNowLemmas
pub mod SeenNowLemmas
pub mod StateLemmas
pub mod GrowthLemmas
mod OutputAnswers
