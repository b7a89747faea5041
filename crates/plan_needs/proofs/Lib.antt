pub mod NumberLemmas
pub mod OrderLemmas
pub mod InstanceLemmas
pub mod ScopeLemmas
pub mod NeedLemmas
