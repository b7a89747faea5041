-- What is known of a file and of its text before its template is made.
use Rattle.std.specs.Prelude.{ℕ, List}
use Rattle.bicep_tree.specs.Tree.{FileTree}
use Rattle.bicep_tree.specs.View as view
use Rattle.bicep_program.specs.declared.file.SourceFile.{SourceFile as Text}
use Rattle.resolved_program.specs.declared.resolved.ResolvedFile.{ResolvedFile}
use Rattle.resolved_program.specs.View.{file_view}
use Rattle.bicep_meaning.specs.Files.{SourceFile}
use Rattle.file_tables.specs.Files.{IsFileOf}
use Rattle.symbol_decorators.specs.Batches.{HasBatches, batches_of}
use Rattle.symbol_decorators.specs.Limits.{IsSmall}
use Rattle.source_templates.specs.Seen.{Shape, file_of, file_in, files_of}
use Rattle.source_templates.specs.Mark.{Mark}
use Rattle.file_tables.specs.Tables.{IsTableOf}
use Rattle.file_tables.specs.declared.order.FileOrder.{FileOrder}
use Rattle.source_templates.specs.Placed.{IsPlaced}
use Rattle.source_templates.specs.Kinds.{HasKinds, NamesDiffer}

-- the tree of a text
abbrev pub text_of : Text → FileTree
text_of x = view.file_of x.file.items

-- the marks are those of loops with the batches of the text, none of which is too large
pub record HasLoops (t : FileTree) (r : ResolvedFile) (x : FileOrder) : Type 0 where
  pub batches : HasBatches t (file_of r x.marks.items)
  pub small : (n : ℕ) → IsSmall (batches_of t n)

-- the table is that of the file of a text in a checked program
pub record IsTabled (t : FileTree) (r : ResolvedFile) (rs : List ResolvedFile) (s : Shape) : Type 0 where
  pub marks : List Mark
  pub table : IsTableOf (file_of r marks) (files_of rs) s
  pub names : IsFileOf (file_view r) (file_of r marks)
  pub batches : HasBatches t (file_of r marks)
  pub small : (n : ℕ) → IsSmall (batches_of t n)
  pub kinds : HasKinds (file_in s)
  pub differ : NamesDiffer (file_in s)
  pub placed : IsPlaced (file_in s)

abbrev pub IsTabledIn : FileTree → ResolvedFile → Shape → Type 0
IsTabledIn t r s = (rs : List ResolvedFile) × IsTabled t r rs s

-- the table is that of a file that can be emitted, in which names differ
pub record IsOfFile (s : Shape) : Type 0 where
  pub file : SourceFile
  pub files : List SourceFile
  pub table : IsTableOf file files s
  pub differ : NamesDiffer (file_in s)
