-- The rules of cells are the same.
use Rattle.std.proofs.Common.{◌≡◌, ℕ, List, Option, Some, None, refl}
use Rattle.std.specs.Prelude.{option_map, option_and_then}
use Rattle.arm_value.specs.Json.{Json, null, bool, int, text, array, object}
use Rattle.template_parameters.specs.Rule as rule
use Rattle.template_parts.specs.declared.mode.Form.{Form}
use Rattle.template_parts.specs.declared.output.Output.{Output}
use Rattle.template_parts.specs.declared.parameter.Parameter.{Parameter}
use Rattle.template_tree.specs.Tree.{TemplateTree}
use Rattle.plan_cells.specs.Desired.{kind_of}
use Rattle.plan_cells.specs.Meaning as template
use Rattle.plan_cells.specs.Meaning.{Deployment}
use Rattle.plan_cells.specs.Resources.{Listed}
use Rattle.plan_cells.specs.Sites as sites
use Rattle.bicep_declared.specs.Declarations.{OutputTree}
use Rattle.bicep_meaning.specs.Files.{SourceFile}
use Rattle.bicep_meaning.specs.Instances as program
use Rattle.emitted_sites.specs.Values.{AreBoth}
use Rattle.emitted_sites.specs.Files.{IsParameter, IsOutput}
use Rattle.emitted_sites.proofs.AbsentLemmas.{Match}

pub truth_same : (j : Json) → rule.is_bool j ≡ program.is_bool j
truth_same null = refl
truth_same (bool b) = refl
truth_same (int z) = refl
truth_same (text t) = refl
truth_same (array js) = refl
truth_same (object ms) = refl

-- a name is judged by the type alone
pub name_same : (d : Deployment) (j : Json) (o : Option Listed)
    → template.is_name d j o ≡ program.is_name d.place j (option_map kind_of o)
name_same d null o = refl
name_same d (bool b) o = refl
name_same d (int z) o = refl
name_same d (text t) None = refl
name_same d (text t) (Some x) = refl
name_same d (array js) o = refl
name_same d (object ms) o = refl

module _ (t : Deployment) (files : List SourceFile) where
  parameter_by : (f : SourceFile) (j : Json) (o : Option ℕ) (u : Option Parameter)
      → AreBoth (IsParameter files f) o u → template.meets_rule t j u ≡ program.accepts_numbered f j o
  parameter_by f j None None h = refl
  parameter_by f j None (Some q) h = absurd h
  parameter_by f j (Some n) None h = absurd h
  parameter_by f j (Some n) (Some q) h = h.rule j

  pub parameter_same : (z : Form) (x : List ℕ) (j : Json) (o : Option SourceFile) (u : Option TemplateTree)
      → AreBoth (Match z files) o u
      → template.meets_rule t j (option_and_then (sites.parameter_named x) u) ≡ program.accepts_named x j o
  parameter_same z x j None None h = refl
  parameter_same z x j None (Some v) h = absurd h
  parameter_same z x j (Some f) None h = absurd h
  parameter_same z x j (Some f) (Some v) h =
      parameter_by f j (program.parameter_named x f) (sites.parameter_named x v) (h.parameters x)

  output_by : (f : SourceFile) (j : Json) (o : Option OutputTree) (u : Option Output)
      → AreBoth (IsOutput files f) o u → template.is_typed t j u ≡ program.is_typed j o
  output_by f j None None h = refl
  output_by f j None (Some q) h = absurd h
  output_by f j (Some n) None h = absurd h
  output_by f j (Some n) (Some q) h = h.type j

  pub output_same : (z : Form) (x : List ℕ) (j : Json) (o : Option SourceFile) (u : Option TemplateTree)
      → AreBoth (Match z files) o u
      → template.is_typed t j (option_and_then (sites.output_named x) u)
      ≡ program.is_typed j (option_and_then (λ f. program.output_folded f x) o)
  output_same z x j None None h = refl
  output_same z x j None (Some v) h = absurd h
  output_same z x j (Some f) None h = absurd h
  output_same z x j (Some f) (Some v) h =
      output_by f j (program.output_folded f x) (sites.output_named x v) (h.outputs x)
