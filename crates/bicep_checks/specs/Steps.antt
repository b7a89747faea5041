-- What the steps find.
use Rattle.std.specs.Prelude.{◌≡◌, ℕ, List, Option, Some, None, slice_get}
use Rattle.std.specs.List.{AllByRecursion}
use Rattle.bicep_program.specs.Circles.{IsCircle}
use Rattle.bicep_program.specs.Program.{ProgramFile}
use Rattle.bicep_arguments.specs.Arguments.{bad_argument}
use Rattle.bicep_arguments.specs.Parameters.{FileParameters}
use Rattle.bicep_arguments.specs.declared.fault.ArgumentFault.{ArgumentFault}
use Rattle.bicep_arguments.specs.declared.fault.ArgumentFault.TheVariants as argument
use Rattle.resolved_program.specs.Programs.{ResolvedFileTree}
use Rattle.resolved_program.specs.declared.fault.ResolveFault.{ResolveFault}
use Rattle.resolved_program.specs.declared.fault.ResolveFault.TheVariants as name
use Rattle.bicep_checks.specs.Faults.{Mentions, IsCircleOf, Spot, state_place}
use Rattle.bicep_checks.specs.declared.circles.Walked.{Walked}
use Rattle.bicep_checks.specs.declared.circles.Walked.TheVariants as walked
use Rattle.bicep_checks.specs.declared.fault.CheckFault.{CheckFault}
use Rattle.bicep_checks.specs.declared.fault.CheckFault.TheVariants as fault

-- the fault of the arguments in a file, where the files of the program have these parameters
abbrev pub argument_by : List FileParameters → ProgramFile → Option ArgumentFault
argument_by ps f = bad_argument ps f.modules f.tree

-- the same, as a fault of the program
abbrev pub as_argument : ℕ → ArgumentFault → CheckFault
as_argument k (argument.Missing at) = fault.MissingModuleParameter k at
as_argument k (argument.Extra at) = fault.ExtraModuleParameter k at

-- the fault of a name, as a fault of the program
abbrev pub as_name : ResolveFault → CheckFault
as_name (name.Twice k at) = fault.NameTwice k at
as_name (name.Unknown k at) = fault.UnknownName k at
as_name name.OutOfMemory = fault.OutOfMemory

-- no symbols of the file mention each other in a circle
abbrev pub IsFree : ResolvedFileTree → Type 0
IsFree r = (circle : List ℕ) → ¬ IsCircle (Mentions r) circle

abbrev pub AreFree : List ResolvedFileTree → Type 0
AreFree rs = AllByRecursion IsFree rs

-- the symbols of the file make no circle, and this is the first variable that reads state and is a for-expression; or
-- these are the names of a circle
abbrev pub IsWalked : ResolvedFileTree → Walked → Type 0
IsWalked r (walked.Free o) = IsFree r × (o ≡ state_place r)
IsWalked r (walked.Circle names) = IsCircleOf names r

-- the names are a circle of the file of that number
pub record IsCircleIn (rs : List ResolvedFileTree) (k : ℕ) (names : List (List ℕ)) : Type 0 where
  pub file : ResolvedFileTree
  pub is : slice_get rs k ≡ Some file
  pub circle : IsCircleOf names file

-- the fault is a circle of a file
abbrev pub IsCircleFault : List ResolvedFileTree → CheckFault → Type 0
IsCircleFault rs (fault.SymbolCycle k names) = IsCircleIn rs k names
IsCircleFault rs fault.OutOfMemory = Unit {0}
IsCircleFault rs other = ⊥

-- what is found in a file, with the number of the file
abbrev pub in_file : ℕ → Option ℕ → Spot
in_file k None = None
in_file k (Some at) = Some (k, at)
