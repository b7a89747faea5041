-- The table of all declarations of a file.
use Rattle.std.specs.Prelude.{◌≡◌, List, map}
use Rattle.resolved_program.specs.View.{file_view}
use Rattle.resolved_program.specs.declared.resolved.ResolvedFile.{ResolvedFile}
use Rattle.bicep_meaning.specs.Files.{SourceFile}
use Rattle.declared_table.specs.Seen.{Shape, file_in, file_of, files_in, files_of}
use Rattle.filled_tables.specs.Filled.{IsFilled}
use Rattle.file_tables.specs.Checked.{IsCheckedFile}
use Rattle.file_tables.specs.Emittable.{IsEmittableFile}
use Rattle.file_tables.specs.declared.order.FileOrder.{FileOrder}

-- the table is that of the file, and has all its declarations, which can be emitted
pub record IsTableOf (f : SourceFile) (fs : List SourceFile) (t : Shape) : Type 0 where
  pub file : file_in t ≡ f
  pub files : files_in t ≡ fs
  pub filled : IsFilled t
  pub emittable : IsEmittableFile (file_in t) (files_in t)

-- the file is one of these, which are those of a program that is read and checked
abbrev pub IsOfProgram : List ResolvedFile → ResolvedFile → Type 0
IsOfProgram rs r = IsCheckedFile (map file_view rs) (file_view r)

-- the table of a file of these, with the marks of its order
abbrev pub IsMadeTable : ResolvedFile → List ResolvedFile → FileOrder → Shape → Type 0
IsMadeTable r rs x t = IsTableOf (file_of r x.marks.items) (files_of rs) t
