pub mod DividedLemmas
