pub mod TypeLemmas
pub mod EmittedLemmas
pub mod DeclaredLemmas
pub mod AgreeLemmas
