pub mod FileLemmas
pub mod KindLemmas
pub mod LineLemmas
pub mod ListLemmas
pub mod SoundLemmas
pub mod TextLemmas
