pub mod AskLemmas
pub mod SeenLemmas
pub mod ValueLemmas
