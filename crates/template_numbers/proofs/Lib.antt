mod NumberLemmas
mod OrderLemmas
