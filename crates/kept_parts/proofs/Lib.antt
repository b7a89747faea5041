mod PieceLemmas
mod FrameLemmas
pub mod ListLemmas
