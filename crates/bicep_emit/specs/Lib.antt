pub mod Bytes
pub mod Clauses
pub mod Details
pub mod Faults
pub mod Modules
pub mod Inner
pub mod Programs
pub use Rattle.program_parts.specs.EmitFault
