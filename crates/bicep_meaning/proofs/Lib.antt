pub mod CappedLemmas
