pub mod Wholes
pub mod Trees
