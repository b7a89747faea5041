pub mod DepthLemmas
mod FileLemmas
mod LoopLemmas
mod NestLemmas
mod RuleLemmas
