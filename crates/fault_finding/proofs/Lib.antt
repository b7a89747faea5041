mod ReadLemmas
mod LineLemmas
mod BreakLemmas
mod MissingLemmas
mod PlaceLemmas
mod AskLemmas
mod RoundLemmas
