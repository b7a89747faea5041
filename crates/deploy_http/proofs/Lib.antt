pub mod InputLemmas
pub mod OneLemmas
pub mod PlanLemmas
pub mod ReadingLemmas
pub mod SmallLemmas
pub mod TalkLemmas
