-- Files of programs that are read and checked.
use Rattle.std.specs.Prelude.{◌≡◌, ℕ, List, Some, slice_get}
use Rattle.std.specs.List.{AllByRecursion}
use Rattle.bicep_program.specs.Program.{ProgramFile}
use Rattle.bicep_program.specs.Sources.{Folder, IsReadAs}
use Rattle.resolved_program.specs.Programs.{ResolvedFileTree, IsResolved}
use Rattle.bicep_types.specs.Faults.{HasFault}
use Rattle.bicep_types.specs.declared.fault.CheckFault.{CheckFault}

-- The file is that of a number in a program whose files are read as `load` of `bicep_program` says, and in which
-- `check` of `bicep_types` finds nothing wrong, as its clauses `checked` and `none` say.
pub record IsCheckedFile (rs : List ResolvedFileTree) (r : ResolvedFileTree) : Type 0 where
  pub folder : Folder
  pub files : List ProgramFile
  pub read : AllByRecursion (λ p. IsReadAs folder p.name p.tree) files
  pub resolved : IsResolved files rs
  pub none : (fault : CheckFault) → ¬ HasFault files fault
  pub number : ℕ
  pub is : slice_get rs number ≡ Some r
