mod LineLemmas
mod NameLemmas
mod HolderLemmas
mod FaultLemmas
mod CheckLemmas
