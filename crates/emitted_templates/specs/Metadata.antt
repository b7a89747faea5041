-- The metadata of the parts of a template.
use Rattle.std.specs.Prelude.{◌≡◌, ℕ, List, Option, Some, option_map, slice_get}
use Rattle.arm_value.specs.Json.{Json}
use Rattle.arm_value.specs.View.{json}
use Rattle.arm_value.specs.declared.value.Value.{Value}
use Rattle.template_parts.specs.declared.mode.Form.{Form}
use Rattle.template_parts.specs.declared.output.Output.{Output}
use Rattle.template_parts.specs.declared.parameter.Parameter.{Parameter}
use Rattle.template_tree.specs.Tree.{TemplateTree}
use Rattle.template_tree.specs.declared.resource.Template.{Template}
use Rattle.plan_cells.specs.Resources.{resources_in}
use Rattle.plan_cells.specs.Sites as template
use Rattle.bicep_meaning.specs.Files.{SourceFile}
use Rattle.bicep_meaning.specs.Instances as source
use Rattle.source_worlds.specs.Numbers.{in_template}
use Rattle.file_lists.specs.Found.{sought}
use Rattle.file_lists.specs.Lists as lists
use Rattle.file_lists.specs.Lists.{output_text, rule_at}
use Rattle.file_resources.specs.Built.{HaveMetadata}
use Rattle.file_resources.specs.Metadata.{metadata_at}
use Rattle.file_resources.specs.Seen.{Shape, file_in}
use Rattle.file_resources.specs.Values.{AreBoth}

-- the number of the output of a file that has this name after folding
abbrev pub output_number : SourceFile → List ℕ → Option ℕ
output_number f x = sought output_text f.outputs x

-- The parameters, the outputs and the resources of a template of a form have the metadata that the symbols and the
-- outputs of a file have, by their numbers.
pub record HasMetadata (z : Form) (f : SourceFile) (of_symbol of_output : ℕ → Option Json) (u : TemplateTree)
    : Type 0 where
  pub parameters : (x : List ℕ) (n : ℕ) (q : Parameter) → source.parameter_named x f ≡ Some n
      → template.parameter_named x u ≡ Some q → option_map json q.metadata ≡ of_symbol n
  pub outputs : (x : List ℕ) (n : ℕ) (q : Output) → output_number f x ≡ Some n
      → template.output_named x u ≡ Some q → option_map json q.metadata ≡ of_output n
  -- one resource after another
  pub resources : (m : ℕ)
      → AreBoth (λ n x. option_map json x.declaration.metadata ≡ of_symbol n) (slice_get (in_template z f) m)
      (slice_get (resources_in u) m)

-- a template with these lists of metadata: by the numbers of the symbols, and by those of the outputs
pub record IsNoted (z : Form) (s : Shape) (ms os : List (Option Value)) (u : Template) : Type 0 where
  pub outputs : lists.HaveMetadata s os u.outputs
  pub same_resources : HaveMetadata ms (in_template z (file_in s)) u.resources

-- these lists, and the parameters of a file, have the metadata of the symbols and of the outputs
pub record AreOf (s : Shape) (rs : List (Option Parameter)) (ms os : List (Option Value))
    (of_symbol of_output : ℕ → Option Json) : Type 0 where
  pub rules : (n : ℕ) (p : Parameter) → rule_at s rs n ≡ Some p → option_map json p.metadata ≡ of_symbol n
  pub symbols : (n : ℕ) → option_map json (metadata_at ms n) ≡ of_symbol n
  pub outputs : (n : ℕ) → option_map json (metadata_at os n) ≡ of_output n
