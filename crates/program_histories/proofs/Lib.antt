mod ReadLemmas
mod StartLemmas
