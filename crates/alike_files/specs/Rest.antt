-- What a template has for a file beside the values of its parameters and the list of its modules.
use Rattle.std.specs.Prelude.{◌≡◌, ℕ, List, map, Some, option_and_then}
use Rattle.template_parts.specs.declared.mode.Form.{Form}
use Rattle.template_tree.specs.Tree.{TemplateTree}
use Rattle.plan_cells.specs.Resources.{header_in, nested_numbers, resource_at}
use Rattle.plan_cells.specs.Sites as template
use Rattle.bicep_meaning.specs.Files.{SourceFile}
use Rattle.bicep_meaning.specs.Instances as source
use Rattle.bicep_meaning.specs.Instances.{put_of}
use Rattle.source_worlds.specs.Numbers.{number_of, symbol_of}
use Rattle.emitted_files.specs.Files.{IsParameter, IsVariable, IsOutput, IsResource, IsDependent, NoneExist}
use Rattle.emitted_files.specs.Values.{AreBoth}

module _ (files : List SourceFile) (f : SourceFile) (z : Form) (u : TemplateTree) where
  -- its form, its variables, outputs and resources
  pub record HasRest : Type 0 where
    pub form : (header_in u).form ≡ z
    pub variables : (x : List ℕ)
        → AreBoth (IsVariable files f) (source.variable_named x f) (template.variable_named x u)
    pub outputs : (x : List ℕ)
        → AreBoth (IsOutput files f) (source.output_folded f x) (template.output_named x u)
    pub resources : (m : ℕ)
        → AreBoth (IsResource files f) (option_and_then (λ n. put_of n f) (symbol_of z f m)) (resource_at u m)
    pub dependents : (m : ℕ)
        → AreBoth (IsDependent files f z) (option_and_then (λ n. put_of n f) (symbol_of z f m)) (resource_at u m)
    pub none_exist : NoneExist files f z u

  -- its parameters
  abbrev pub HasParameters : Type 0
  HasParameters = (x : List ℕ)
      → AreBoth (IsParameter files f) (source.parameter_named x f) (template.parameter_named x u)

  -- its modules are the nested deployments
  abbrev pub HasModules : Type 0
  HasModules = map (number_of z f) f.modules ≡ map (λ m. Some m) (nested_numbers u)
