pub mod Table
pub mod Values
pub mod Calls
pub mod Laws
pub mod Rows
pub use Rattle.function_prints.specs.Cuts
pub use Rattle.function_numbers.specs.Kinds
