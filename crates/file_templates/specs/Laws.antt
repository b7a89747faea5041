-- What holds of the parts of templates.
use Rattle.std.specs.Prelude.{List, None}
use Rattle.template_parts.specs.declared.mode.Form.{Form}
use Rattle.bicep_tree.specs.Tree.{FileTree}
use Rattle.resolved_program.specs.declared.resolved.ResolvedFile.{ResolvedFile}
use Rattle.measured_trees.specs.Limits.{IsBeyond}
pub use Rattle.source_templates.specs.Laws.{CheckedFilesHaveKinds, WholeTemplatesAreEmitted}
use Rattle.file_templates.specs.Made.{CanBeFilled}
use Rattle.file_templates.specs.Parts.{ArePartsFor, extremes_of}
use Rattle.file_templates.specs.declared.file.FileParts.{FileParts}

-- of the parts of a file that take no more than the limits of templates a template can be made
abbrev pub PartsWithinTheLimitsCanBeFilled : Type 0
PartsWithinTheLimitsCanBeFilled =
    (z : Form) (t : FileTree) (r : ResolvedFile) (rs : List ResolvedFile) (x : FileParts) → ArePartsFor z t r rs x
    → IsBeyond 0 (extremes_of x) None → CanBeFilled x
