mod KindLemmas
mod NameLemmas
mod NestedLemmas
mod ParameterLemmas
mod ScopeLemmas
