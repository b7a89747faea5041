-- The files of a program that is read and checked.
use Rattle.std.specs.Prelude.{◌≡◌, ℕ, List, Some, map, slice_get}
use Rattle.std.specs.List.{AllByRecursion}
use Rattle.bicep_program.specs.Program.{program_file}
use Rattle.bicep_program.specs.Sources.{Folder, IsReadAs}
use Rattle.bicep_program.specs.declared.file.SourceFile.{SourceFile as Text}
use Rattle.bicep_types.specs.Faults.{HasFault}
use Rattle.bicep_types.specs.declared.fault.CheckFault.{CheckFault}
use Rattle.resolved_program.specs.Programs.{IsResolved}
use Rattle.resolved_program.specs.View.{file_view}
use Rattle.resolved_program.specs.declared.resolved.ResolvedFile.{ResolvedFile}

-- the files of a program that is read and in which nothing is wrong
pub record IsRead (ss : List Text) (rs : List ResolvedFile) : Type 0 where
  pub folder : Folder
  pub read : AllByRecursion (λ p. IsReadAs folder p.name p.tree) (map program_file ss)
  pub resolved : IsResolved (map program_file ss) (map file_view rs)
  pub none : (fault : CheckFault) → ¬ HasFault (map program_file ss) fault

-- an item is that of a number
abbrev pub IsAt : {A : Type 0} → List A → ℕ → A → Type 0
IsAt xs k x = slice_get xs k ≡ Some x

-- the text and the file are those of one number
pub record IsPair (ss : List Text) (rs : List ResolvedFile) (k : ℕ) (x : Text) (r : ResolvedFile) : Type 0 where
  pub text : IsAt ss k x
  pub file : IsAt rs k r

-- the program is read, with the text of a number
pub record IsReadWith (ss : List Text) (rs : List ResolvedFile) (k : ℕ) (x : Text) : Type 0 where
  pub read : IsRead ss rs
  pub text : IsAt ss k x
