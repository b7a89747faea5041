pub mod Files
pub use Rattle.bicep_types.specs.Faults
pub use Rattle.bicep_types.specs.declared.fault.CheckFault
