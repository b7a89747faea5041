mod AnsweredLemmas
mod PlannedLemmas
