pub mod Nestings
pub mod Laws
