pub mod Openers
pub mod SameNested
