mod BackLemmas
mod WalkLemmas
