-- What holds of the files of a checked program.
use Rattle.std.specs.Prelude.{◌≡◌, List, map}
use Rattle.resolved_program.specs.Programs.{ResolvedFileTree}
use Rattle.bicep_meaning.specs.Files.{SourceFile}
use Rattle.sound_files.specs.Files.{IsFileOf}
use Rattle.file_tables.specs.Checked.{IsCheckedFile}
use Rattle.file_tables.specs.Emittable.{IsEmittableFile}

-- a file of a program that is read and checked has all that its declarations and values need to be emitted
abbrev pub CheckedFilesAreEmittable : Type 0
CheckedFilesAreEmittable =
    (rs : List ResolvedFileTree) (r : ResolvedFileTree) → IsCheckedFile rs r → (f : SourceFile) → IsFileOf r f
    → (fs : List SourceFile) → map (λ f. f.outputs) fs ≡ map (λ r. r.outputs) rs → IsEmittableFile f fs
