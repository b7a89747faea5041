-- The files of a program that resolved files stand for.
use Rattle.std.specs.Prelude.{List, [], ◌∷◌}
use Rattle.resolved_program.specs.Programs.{ResolvedFileTree}
use Rattle.bicep_meaning.specs.Files.{SourceFile}
use Rattle.sound_files.specs.Files.{IsFileOf}

-- each file stands for the resolved file of its number
abbrev pub AreFilesOf : List ResolvedFileTree → List SourceFile → Type 0
AreFilesOf [] [] = Unit {0}
AreFilesOf [] (f ∷ fs) = ⊥
AreFilesOf (r ∷ rs) [] = ⊥
AreFilesOf (r ∷ rs) (f ∷ fs) = IsFileOf r f × AreFilesOf rs fs
