pub mod FollowedLemmas
pub mod ReadLemmas
