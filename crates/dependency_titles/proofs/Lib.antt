mod IndexLemmas
mod TitleLemmas
