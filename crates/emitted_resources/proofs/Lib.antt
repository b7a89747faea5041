pub mod TextLemmas
pub mod TurnLemmas
pub mod HeadLemmas
pub mod LimitLemmas
pub mod ResourceLemmas
