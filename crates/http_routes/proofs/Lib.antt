pub mod SegmentLemmas
pub mod IdLemmas
pub mod RouteLemmas
pub mod TargetLemmas
