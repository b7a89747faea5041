pub mod TextLemmas
pub mod StatedLemmas
pub mod FormatLemmas
pub mod PieceLemmas
pub mod RejoinLemmas
pub mod WholeLemmas
