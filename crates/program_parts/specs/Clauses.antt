-- What the functions of the crate require and ensure.
use Rattle.std.specs.Prelude.{◌≡◌, ℕ, Option}
use Rattle.bicep_meaning.specs.Instances.{module_of}
use Rattle.bicep_names.specs.declared.kind.Kind.{Kind}
pub use Rattle.std.specs.Prelude.{IfOk, IfErr, IfSome, OnOk}
pub use Rattle.program_parts.specs.Faults.{HasLimitFault, IsBeyondNone, IsMemoryFault, IsOfBeyond, IsProgramFault}
pub use Rattle.program_parts.specs.Faults.{IsRefused, IsWholeFault}
pub use Rattle.program_parts.specs.Programs.{IsAt, IsRead, IsReadWith}
pub use Rattle.program_parts.specs.Measures.{AreAllMeasures, AreMeasured, AreMoreMeasures, IsInnerMeasure, IsInside}
pub use Rattle.program_parts.specs.Measures.{IsMeasureAt, IsMeasured, IsModuleMeasure, IsPartMeasure, IsWholeMeasure}
pub use Rattle.program_parts.specs.Measures.{IsWholeWithin}
pub use Rattle.program_parts.specs.Parts.{AreAllOrders, AreAllParts, AreOrders, AreOrdersOfAll, AreParts, HasLast}
pub use Rattle.program_parts.specs.Parts.{HaveOneMoreOrder, HaveOneMorePart, IsEmpty, IsNextOrder, IsOrderAt, IsPartAt}

-- the number of the file of a module
abbrev pub IsModuleOf : Kind → Option ℕ → Type 0
IsModuleOf kind o = o ≡ module_of kind
