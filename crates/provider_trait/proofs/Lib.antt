pub mod NestLemmas
pub mod AccountLemmas
pub mod PlainLemmas
pub mod FirstPartLemmas
