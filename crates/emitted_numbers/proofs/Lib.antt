mod IntLemmas
mod TreeLemmas
