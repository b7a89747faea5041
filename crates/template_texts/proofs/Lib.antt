pub mod SoundLemmas
pub mod SpellingLemmas
pub mod WordLemmas
