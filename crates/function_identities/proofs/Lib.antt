pub mod TextLemmas
pub mod BitLemmas
pub mod SeedLemmas
pub mod LawLemmas
