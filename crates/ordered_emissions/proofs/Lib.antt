mod NothingLemmas
mod OrderLemmas
pub mod KnownLemmas
pub mod HoleLemmas
pub mod TurnLemmas
pub mod HeadLemmas
