-- What the template of a file has, but for the rules of its parameters (`IsFile` of `emitted_files`).
use Rattle.std.specs.Prelude.{◌≡◌, ℕ, List, Option, Some, map, option_and_then}
use Rattle.template_parts.specs.declared.mode.Form.{Form}
use Rattle.template_parts.specs.declared.parameter.Parameter.{Parameter}
use Rattle.template_tree.specs.Tree.{TemplateTree}
use Rattle.plan_cells.specs.Resources.{header_in, nested_numbers, resource_at}
use Rattle.plan_cells.specs.Sites as template
use Rattle.bicep_meaning.specs.Instances as source
use Rattle.bicep_meaning.specs.Instances.{put_of}
use Rattle.source_worlds.specs.Numbers.{number_of, symbol_of}
use Rattle.file_lists.specs.Lists.{IsCompleted, rule_at}
use Rattle.file_resources.specs.Files.{IsVariable, IsOutput, IsResource, IsDependent, NoneExist}
use Rattle.file_resources.specs.Modules.{modules_in}
use Rattle.file_resources.specs.Seen.{Shape, file_in, files_in}
use Rattle.file_resources.specs.Values.{AreBoth}

pub record HasParts (z : Form) (s : Shape) (rs : List (Option Parameter)) (u : TemplateTree) : Type 0 where
  pub form : (header_in u).form ≡ z
  pub parameters : (x : List ℕ)
      → AreBoth (λ n q. IsCompleted s (rule_at s rs n) n q) (source.parameter_named x (file_in s))
      (template.parameter_named x u)
  pub variables : (x : List ℕ)
      → AreBoth (IsVariable (files_in s) (file_in s)) (source.variable_named x (file_in s))
      (template.variable_named x u)
  pub outputs : (x : List ℕ)
      → AreBoth (IsOutput (files_in s) (file_in s)) (source.output_folded (file_in s) x) (template.output_named x u)
  pub resources : (m : ℕ)
      → AreBoth (IsResource (files_in s) (file_in s))
      (option_and_then (λ n. put_of n (file_in s)) (symbol_of z (file_in s) m)) (resource_at u m)
  pub dependents : (m : ℕ)
      → AreBoth (IsDependent (files_in s) (file_in s) z)
      (option_and_then (λ n. put_of n (file_in s)) (symbol_of z (file_in s) m)) (resource_at u m)
  pub none_exist : NoneExist (files_in s) (file_in s) z u
  -- the modules of the file are the nested deployments, in their order
  pub modules : map (number_of z (file_in s)) (modules_in z (file_in s)) ≡ map (λ m. Some m) (nested_numbers u)
