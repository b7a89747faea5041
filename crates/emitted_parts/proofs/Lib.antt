pub mod BuiltLemmas
pub mod NameLemmas
pub mod TextLemmas
pub mod WordLemmas
