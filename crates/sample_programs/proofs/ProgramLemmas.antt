-- What `load` returns is a program that is read.
use Rattle.std.specs.Prelude.{ℕ, List}
use Rattle.bicep_program.specs.Program.{IsProgram, files_of}
use Rattle.bicep_program.specs.Sources.{Folder}
use Rattle.bicep_program.specs.declared.file.Program.{Program}
use Rattle.bicep_emit.specs.Programs.{IsLoaded}

pub loaded : (folder : Folder) (main : List ℕ) (p : Program) → IsProgram folder main (files_of p) → IsLoaded p
loaded folder main p h = (folder, (main, h))
