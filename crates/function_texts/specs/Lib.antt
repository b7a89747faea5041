pub mod Letters
pub mod Places
pub mod Cuts
pub mod Search
pub use Rattle.function_numbers.specs.Kinds
pub use Rattle.function_numbers.specs.Numbers
