pub mod SameLemmas
pub mod CellLemmas
pub mod ListingLemmas
pub mod FollowedLemmas
