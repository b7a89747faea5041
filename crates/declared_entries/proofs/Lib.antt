mod KnownLemmas
mod MadeLemmas
mod FillLemmas
mod TurnLemmas
mod SoundLemmas
mod PairLemmas
