-- What the templates of all files of a program have beside their meaning.
use Rattle.std.specs.Prelude.{◌≡◌, ℕ, List, Some, slice_get}
use Rattle.template_parts.specs.declared.mode.Form.{Form}
use Rattle.template_tree.specs.Tree.{TemplateTree}
use Rattle.plan_cells.specs.Resources.{Nested}
use Rattle.bicep_tree.specs.Tree.{FileTree}
use Rattle.bicep_meaning.specs.Files.{SourceFile}
use Rattle.program_parts.specs.Details.{HasExisting, HasFewParts, HasMetadata, output_metadata, symbol_metadata}
use Rattle.program_parts.specs.Whole.{IsModuleAt}

-- the template has the metadata of the decorators in the text of a number, and the existing resources of its file; and
-- none of its lists is too long
pub record HasDetails (z : Form) (ts : List FileTree) (fs : List SourceFile) (k : ℕ) (t : FileTree) (f : SourceFile)
    (u : TemplateTree) : Type 0 where
  pub text : slice_get ts k ≡ Some t
  pub file : slice_get fs k ≡ Some f
  pub metadata : HasMetadata z f (symbol_metadata t) (output_metadata t) u
  pub existing : HasExisting z fs f u
  pub few : HasFewParts u

-- and so have the templates of its modules
pub data HasAllDetails (z : Form) (ts : List FileTree) (fs : List SourceFile) : ℕ → TemplateTree → Type 0 where
  detailed : (k : ℕ) (u : TemplateTree) (t : FileTree) (f : SourceFile) → HasDetails z ts fs k t f u
      → ((m n j : ℕ) (x : Nested) → IsModuleAt z f u m n j x → HasAllDetails z ts fs j x.template)
      → HasAllDetails z ts fs k u
