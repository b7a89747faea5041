pub mod FirstLemmas
pub mod NamedLemmas
pub mod ResolveLemmas
pub mod UnknownLemmas
