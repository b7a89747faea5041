pub mod Outputs
pub use Rattle.scope_entries.specs.Symbols
pub use Rattle.scope_entries.specs.Entries
pub use Rattle.scope_entries.specs.RawNow
pub use Rattle.scope_entries.specs.declared.settling.Settling
