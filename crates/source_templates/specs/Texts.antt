-- When a table, and the rules of parameters with which a template is made, are those of a text.
use Rattle.std.specs.Prelude.{◌≡◌, ℕ, List, Option}
use Rattle.template_parts.specs.declared.parameter.Parameter.{Parameter}
use Rattle.bicep_tree.specs.Tree.{FileTree}
use Rattle.resolved_program.specs.declared.resolved.ResolvedFile.{ResolvedFile}
use Rattle.resolved_program.specs.View.{file_view}
use Rattle.source_files.specs.Files.{IsFileOf}
use Rattle.symbol_decorators.specs.Batches.{HasBatches}
use Rattle.parameter_rules.specs.Files.{IsParameterAt}
use Rattle.source_files.specs.Seen.{Shape, file_of, file_in}
use Rattle.source_files.specs.Mark.{Mark}
use Rattle.program_templates.specs.Lists.{rule_at}

-- The table is that of the file whose names are found; its loops have the batches of the text's decorators, and the
-- list has the parameters that these and the types of parameters make.
pub record IsOfText (t : FileTree) (r : ResolvedFile) (s : Shape) (rs : List (Option Parameter)) : Type 0 where
  pub marks : List Mark
  pub file : file_in s ≡ file_of r marks
  pub names : IsFileOf (file_view r) (file_of r marks)
  pub batches : HasBatches t (file_of r marks)
  pub rules : (n : ℕ) → IsParameterAt t (file_in s) n (rule_at s rs n)
