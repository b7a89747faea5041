pub mod FollowLemmas
pub mod SightLemmas
