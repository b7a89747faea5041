mod WordLemmas
mod PlaceLemmas
mod GivenLemmas
