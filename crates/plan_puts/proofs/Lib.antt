mod InstanceLemmas
mod LineLemmas
mod SameLemmas
mod FoundLemmas
