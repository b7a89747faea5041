pub mod SeatedLemmas
pub mod ReceivedLemmas
pub mod PostLemmas
pub mod MarkLemmas
