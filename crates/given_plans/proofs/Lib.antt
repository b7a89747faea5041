pub mod NeedLemmas
pub mod StandLemmas
mod ListLemmas
pub mod OpenLemmas
