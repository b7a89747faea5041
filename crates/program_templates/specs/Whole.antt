-- Templates of the files of a program, in a form, with the templates of their modules in them.
use Rattle.std.specs.Prelude.{◌≡◌, ℕ, List, Some, slice_get}
use Rattle.template_parts.specs.declared.mode.Form.{Form}
use Rattle.template_tree.specs.Tree.{TemplateTree}
use Rattle.plan_cells.specs.Resources.{Nested, nested_at}
use Rattle.bicep_meaning.specs.Files.{SourceFile}
use Rattle.source_worlds.specs.Numbers.{symbol_of}
use Rattle.kept_templates.specs.Files.{IsFile}
use Rattle.program_templates.specs.Kinds.{HasKinds, file_number}

-- the template is that of the file of a number, but for those of its modules
pub record IsOwn (z : Form) (files : List SourceFile) (k : ℕ) (f : SourceFile) (u : TemplateTree) : Type 0 where
  pub is : slice_get files k ≡ Some f
  pub kinds : HasKinds f
  pub file : IsFile files f z u

-- the nested deployment of a number in the template of a file is a module of a file of the program
pub record IsModuleAt (z : Form) (f : SourceFile) (u : TemplateTree) (m n j : ℕ) (x : Nested) : Type 0 where
  pub nested : nested_at u m ≡ Some x
  pub symbol : symbol_of z f m ≡ Some n
  pub file : file_number f n ≡ Some j

-- the template is that of the file of a number, and so are the templates of its modules
pub data IsWhole (z : Form) (files : List SourceFile) : ℕ → TemplateTree → Type 0 where
  whole : (k : ℕ) (u : TemplateTree) (f : SourceFile) → IsOwn z files k f u
      → ((m n j : ℕ) (x : Nested) → IsModuleAt z f u m n j x → IsWhole z files j x.template)
      → IsWhole z files k u
