pub mod OpenLemmas
pub mod SetUpLemmas
pub mod BackLemmas
