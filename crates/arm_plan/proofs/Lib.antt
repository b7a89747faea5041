mod TaskLemmas
mod AcceptedLemmas
