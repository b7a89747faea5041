pub mod SiteLemmas
pub mod RawLemmas
mod NameLemmas
pub mod BoundLemmas
pub mod ValueLemmas
