-- What holds of the files of programs without faults.
use Rattle.std.specs.Prelude.{◌≡◌, ℕ, List, Some, slice_get}
use Rattle.bicep_program.specs.Program.{ProgramFile}
use Rattle.resolved_program.specs.Programs.{ResolvedFileTree, IsResolved}
use Rattle.bicep_types.specs.Faults.{HasFault}
use Rattle.bicep_types.specs.declared.fault.CheckFault.{CheckFault}
use Rattle.bicep_meaning.specs.Files.{SourceFile}
use Rattle.placed_files.specs.Placed.{IsPlaced}

-- a file with the symbols and the declarations of one of a program without faults is placed
abbrev pub CheckedFilesArePlaced : Type 0
CheckedFilesArePlaced =
    (files : List ProgramFile) (rs : List ResolvedFileTree) → IsResolved files rs
    → ((fault : CheckFault) → ¬ HasFault files fault) → (k : ℕ) (r : ResolvedFileTree) → slice_get rs k ≡ Some r
    → (f : SourceFile) → f.symbols ≡ r.symbols → f.declared ≡ r.declared → IsPlaced f
