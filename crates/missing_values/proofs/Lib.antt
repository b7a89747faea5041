mod PathLemmas
mod MissingLemmas
