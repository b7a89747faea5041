-- When a fault holds of a program, and which of several is returned.
use Rattle.std.specs.Prelude.{◌≡◌, ◌⊎◌, ℕ, List, Option, Some}
use Rattle.bicep_program.specs.Program.{ProgramFile}
use Rattle.bicep_checks.specs.Faults as untyped
use Rattle.bicep_checks.specs.Faults.{OfFile, OfResolved}
use Rattle.bicep_checks.specs.Order as order
use Rattle.bicep_checks.specs.declared.fault.CheckFault.{CheckFault as Untyped}
use Rattle.bicep_checks.specs.declared.fault.CheckFault.TheVariants as u
use Rattle.bicep_types.specs.Metadata.{bad_metadata}
use Rattle.bicep_types.specs.Program.{type_place}
use Rattle.bicep_types.specs.declared.fault.CheckFault.{CheckFault}
use Rattle.bicep_types.specs.declared.fault.CheckFault.TheVariants as fault

-- the first value of metadata that is no literal
abbrev pub metadata_place : ProgramFile → Option ℕ
metadata_place f = bad_metadata f.tree

-- the first value of metadata that is no literal begins there, or the first part that does not fit by its type
abbrev pub IsMistyped : List ProgramFile → ℕ → ProgramFile → Type 0
IsMistyped files at f =
    (metadata_place f ≡ Some at) ⊎ OfResolved files (λ r. type_place files r ≡ Some at) f

-- the fault holds of a program; all but WrongType are those of `bicep_checks`
abbrev pub HasFault : List ProgramFile → CheckFault → Type 0
HasFault files (fault.UnknownName k at) = untyped.HasFault files (u.UnknownName k at)
HasFault files (fault.NameTwice k at) = untyped.HasFault files (u.NameTwice k at)
HasFault files (fault.WrongType k at) = OfFile files k (IsMistyped files at)
HasFault files (fault.SymbolCycle k names) = untyped.HasFault files (u.SymbolCycle k names)
HasFault files (fault.BadDecorator k at) = untyped.HasFault files (u.BadDecorator k at)
HasFault files (fault.BadForPlace k at) = untyped.HasFault files (u.BadForPlace k at)
HasFault files (fault.MissingModuleParameter k at) = untyped.HasFault files (u.MissingModuleParameter k at)
HasFault files (fault.ExtraModuleParameter k at) = untyped.HasFault files (u.ExtraModuleParameter k at)
HasFault files fault.OutOfMemory = ⊥

-- no fault but WrongType holds
abbrev pub HasNoUntyped : List ProgramFile → Type 0
HasNoUntyped files = (other : Untyped) → ¬ untyped.HasFault files other

-- The answer to a program that is refused: the fault holds. WrongType comes only where no other fault holds, and the
-- others in the order of `bicep_checks`; of memory nothing is said.
abbrev pub IsAnswer : List ProgramFile → CheckFault → Type 0
IsAnswer files (fault.UnknownName k at) = order.IsAnswer files (u.UnknownName k at)
IsAnswer files (fault.NameTwice k at) = order.IsAnswer files (u.NameTwice k at)
IsAnswer files (fault.WrongType k at) = OfFile files k (IsMistyped files at) × HasNoUntyped files
IsAnswer files (fault.SymbolCycle k names) = order.IsAnswer files (u.SymbolCycle k names)
IsAnswer files (fault.BadDecorator k at) = order.IsAnswer files (u.BadDecorator k at)
IsAnswer files (fault.BadForPlace k at) = order.IsAnswer files (u.BadForPlace k at)
IsAnswer files (fault.MissingModuleParameter k at) = order.IsAnswer files (u.MissingModuleParameter k at)
IsAnswer files (fault.ExtraModuleParameter k at) = order.IsAnswer files (u.ExtraModuleParameter k at)
IsAnswer files fault.OutOfMemory = Unit {0}

-- the same fault, where no type is looked at
abbrev pub as_fault : Untyped → CheckFault
as_fault (u.UnknownName k at) = fault.UnknownName k at
as_fault (u.NameTwice k at) = fault.NameTwice k at
as_fault (u.SymbolCycle k names) = fault.SymbolCycle k names
as_fault (u.BadDecorator k at) = fault.BadDecorator k at
as_fault (u.BadForPlace k at) = fault.BadForPlace k at
as_fault (u.MissingModuleParameter k at) = fault.MissingModuleParameter k at
as_fault (u.ExtraModuleParameter k at) = fault.ExtraModuleParameter k at
as_fault u.OutOfMemory = fault.OutOfMemory
