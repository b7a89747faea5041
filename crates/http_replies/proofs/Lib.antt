pub mod ErrorLemmas
