-- What holds of files that are measured.
use Rattle.std.specs.Prelude.{◌≡◌, ◌+◌, ℕ, List, Option, Some, None}
use Rattle.arm_value.specs.declared.value.Value.{Value}
use Rattle.template_parts.specs.declared.mode.Form.{Form}
use Rattle.template_parts.specs.declared.parameter.Parameter.{Parameter}
use Rattle.bicep_declared.specs.Declarations.{BodyTree, a_module}
use Rattle.bicep_meaning.specs.Files.{declaration}
use Rattle.measured_trees.specs.Extremes.{Extremes}
use Rattle.measured_trees.specs.Limits.{IsBeyond}
use Rattle.emitted_templates.specs.Seen.{Shape, file_in}
pub use Rattle.emitted_templates.specs.Laws.{TemplatesHaveMetadata, TemplatesHaveParts}
use Rattle.file_limits.specs.Extremes.{file_extremes}
use Rattle.file_limits.specs.Limited.{AllIsPrintable, AllFits}

-- the template of a file that is beyond no limit, with whatever rules, metadata and modules, can be built and read back
abbrev pub FilesWithinLimitsFit : Type 0
FilesWithinLimitsFit =
    (z : Form) (s : Shape) (rs : List (Option Parameter)) (ms os : List (Option Value))
    (inner : ℕ → Extremes) (around : ℕ) → AllIsPrintable s
    → IsBeyond around (file_extremes z s rs ms os inner) None → AllFits z s

-- neither is the template of a module beyond a limit in such a file, in which it is inside four objects and arrays
abbrev pub ModulesAreWithinLimits : Type 0
ModulesAreWithinLimits =
    (z : Form) (s : Shape) (rs : List (Option Parameter)) (ms os : List (Option Value))
    (inner : ℕ → Extremes) (around n at : ℕ) (b : BodyTree)
    → declaration (file_in s) n ≡ Some (a_module at b) → IsBeyond around (file_extremes z s rs ms os inner) None
    → IsBeyond (around + 4) (inner n) None
