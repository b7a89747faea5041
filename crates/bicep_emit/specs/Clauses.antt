-- What the functions of the crate require and ensure.
use Rattle.std.specs.Prelude.{◌≡◌, ◌<◌, ◌≤◌, ℕ, suc, Option, Some, None}
pub use Rattle.std.specs.Prelude.{IfOk, IfErr, IfSome}
pub use Rattle.arm_value.specs.View.{json}
pub use Rattle.bicep_emit.specs.Bytes.{AreBytes, AreLong, AreShort, HasLongText, IsBytesFault, IsBytesOf, MayBeWritten}
pub use Rattle.bicep_emit.specs.Faults.{IsBuiltFault, IsEmissionFault, IsEmitFault, IsNestingFault, IsPartsFault}
pub use Rattle.bicep_emit.specs.Faults.{IsRefused, IsWholeAndWithin, IsWholeProgram, IsWithin}
pub use Rattle.bicep_emit.specs.Modules.{AreOfProgram, CanBeInner, CanBeModule, CanBeModules, CanBeWhole}
pub use Rattle.bicep_emit.specs.Inner.{AreModulesIn, CanBeNext, HasLast, HasLastItem, HasModule, HasOneMore, IsInnerFault}
pub use Rattle.bicep_emit.specs.Inner.{IsInnerOf, IsLeast}
pub use Rattle.bicep_emit.specs.Inner.{IsModuleFault, IsModulesFault, IsOneTooMany, IsOrFault, IsTooMany}
pub use Rattle.bicep_emit.specs.Modules.{CanBeWholePart, IsInner, IsModuleFor, IsWholeAtEach}
pub use Rattle.program_parts.specs.Faults.{IsMemoryFault}
pub use Rattle.template_lengths.specs.Lengths.{OptionKeeps}
pub use Rattle.bicep_emit.specs.Modules.{IsWholeIn}
pub use Rattle.bicep_emit.specs.Programs.{HasNoFault, IsCheckedAs, IsEmission, IsLoaded}
pub use Rattle.program_parts.specs.Programs.{IsAt, IsRead}
pub use Rattle.program_parts.specs.Measures.{IsWholeWithin}
pub use Rattle.program_parts.specs.Parts.{AreOrdersOfAll}

-- one less, where it is not 0
abbrev pub IsBelow : ℕ → Option ℕ → Type 0
IsBelow n None = n ≡ 0
IsBelow n (Some m) = n ≡ suc m

-- the number where it is above 120
abbrev pub IsAbove : ℕ → Option ℕ → Type 0
IsAbove n None = n ≤ 120
IsAbove n (Some m) = (m ≡ n) × (120 < n)
