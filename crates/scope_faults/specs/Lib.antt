pub mod Circles
pub mod Faults
pub use Rattle.scope_outputs.specs.Outputs
pub use Rattle.scope_outputs.specs.Entries
pub use Rattle.scope_outputs.specs.Settling
pub use Rattle.scope_outputs.specs.declared.telling.Noted
pub use Rattle.scope_outputs.specs.declared.offering.Offering
pub use Rattle.scope_outputs.specs.Symbols
