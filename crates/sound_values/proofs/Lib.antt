pub mod FoundLemmas
pub mod NameLemmas
pub mod SoundLemmas
