pub mod Declared
pub mod Parts
pub mod ChildTypes
pub use Rattle.bicep_declared.specs.Declarations
pub use Rattle.expression_values.specs.Meaning
pub use Rattle.function_prints.specs.Printed
