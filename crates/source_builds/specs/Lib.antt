pub mod Builds
pub mod Refusals
pub mod Clauses
pub mod Laws
