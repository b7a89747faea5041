-- Templates of files that keep the rules of templates (`Keeps` of `template_written`).
use Rattle.std.specs.Prelude.{◌≡◌, ℕ, List, Option, Some}
use Rattle.template_parts.specs.declared.mode.Form.{Form}
use Rattle.template_parts.specs.declared.parameter.Parameter.{Parameter}
use Rattle.template_tree.specs.Tree.{TemplateTree}
use Rattle.template_tree.specs.View.{template_tree}
use Rattle.template_tree.specs.declared.resource.Template.{Template}
use Rattle.template_written.specs.Keeps.{Keeps, KeepsBatches}
use Rattle.bicep_meaning.specs.Files.{SourceFile}
use Rattle.placed_files.specs.Placed.{IsPlaced}
use Rattle.counted_templates.specs.Built.{Templates, template_of}
use Rattle.counted_templates.specs.Fits.{IsReady}
use Rattle.counted_templates.specs.Lists.{SymbolsDiffer}
use Rattle.counted_templates.specs.Seen.{Shape, file_in}
use Rattle.counted_templates.specs.Templates.{IsTemplateOf}
pub use Rattle.placed_files.specs.Laws.{CheckedFilesArePlaced}

-- a batch of a loop has at most 800 instances
abbrev pub AreBatchesSmall : SourceFile → Type 0
AreBatchesSmall f = (n : ℕ) → KeepsBatches (f.batches n)

-- the templates of modules keep the rules
abbrev pub AllKept : Templates → Type 0
AllKept us = (n : ℕ) (t : TemplateTree) → template_of us n ≡ Some t → Keeps t

-- and so does the template of the file
abbrev pub TemplatesKeepTheRules : Type 0
TemplatesKeepTheRules =
    (z : Form) (s : Shape) (rs : List (Option Parameter)) (us : Templates) (u : Template) → IsTemplateOf z s rs us u
    → IsReady s → SymbolsDiffer s → IsPlaced (file_in s) → AreBatchesSmall (file_in s) → AllKept us
    → Keeps (template_tree u)
