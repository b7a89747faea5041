-- The template of a file, as it is made.
use Rattle.std.specs.Prelude.{◌≡◌, ◌≤◌, ℕ, List, length, Option, codes}
use Rattle.template_parts.specs.declared.mode.Form.{Form}
use Rattle.template_parts.specs.declared.parameter.Parameter.{Parameter}
use Rattle.template_tree.specs.Tree.{ResourceTree}
use Rattle.template_tree.specs.declared.resource.Template.{Template}
use Rattle.source_worlds.specs.Numbers.{in_template}
use Rattle.file_lists.specs.Lists.{AreParameters, AreVariables, AreOutputs, AreDivided, parameter_name, output_name}
use Rattle.file_lists.specs.Lists.{parameter_count, variable_count, output_count}
use Rattle.file_lists.specs.Lists.{VariablesFit, OutputsFit, DefaultsFit, SymbolsDiffer, OutputsDiffer, AreRules}
use Rattle.file_lists.specs.Order.{AreInOrder}
use Rattle.file_resources.specs.Built.{Templates, AreBuilt}
use Rattle.file_resources.specs.Seen.{Shape, file_in}
use Rattle.emitted_templates.specs.declared.lists.Listed.{Listed}

-- the schema of templates, and the version of their content
abbrev pub schema : List ℕ
schema = codes "https://schema.management.azure.com/schemas/2019-04-01/deploymentTemplate.json#"

abbrev pub content_version : List ℕ
content_version = codes "1.0.0.0"

-- what a file must have so that its parameters, variables and outputs can be made
pub record CanBeListed (s : Shape) (rs : List (Option Parameter)) : Type 0 where
  pub symbols : SymbolsDiffer s
  pub output_names : OutputsDiffer s
  pub rules : AreRules s rs
  pub variables : VariablesFit s
  pub outputs : OutputsFit s
  pub defaults : DefaultsFit s

-- the parameters, the variables and the outputs of a file, each in order
pub record AreListsOf (s : Shape) (rs : List (Option Parameter)) (x : Listed) : Type 0 where
  pub parameters : AreParameters s rs x.parameters
  pub parameter_order : AreInOrder parameter_name x.parameters
  pub variables : AreVariables s x.variables
  pub variable_order : AreDivided x.variables
  pub outputs : AreOutputs s x.outputs
  pub output_order : AreInOrder output_name x.outputs
  -- and no more than there are in the file
  pub few_parameters : length x.parameters ≤ parameter_count s
  pub few_variables : length x.variables ≤ variable_count s
  pub few_outputs : length x.outputs ≤ output_count s

-- the template of these lists and resources in a form
pub record IsMadeOf (z : Form) (x : Listed) (resources : List ResourceTree) (u : Template) : Type 0 where
  pub form : u.form ≡ z
  pub address : u.schema ≡ schema
  pub version : u.content_version ≡ content_version
  pub parameters : u.parameters ≡ x.parameters
  pub variables : u.variables ≡ x.variables
  pub outputs : u.outputs ≡ x.outputs
  pub same_resources : u.resources ≡ resources

-- the template of a file, with these rules of its parameters, and with these templates of its modules
pub record IsTemplateOf (z : Form) (s : Shape) (rs : List (Option Parameter)) (us : Templates) (u : Template)
    : Type 0 where
  pub form : u.form ≡ z
  pub address : u.schema ≡ schema
  pub version : u.content_version ≡ content_version
  pub parameters : AreParameters s rs u.parameters
  pub parameter_order : AreInOrder parameter_name u.parameters
  pub variables : AreVariables s u.variables
  pub variable_order : AreDivided u.variables
  pub outputs : AreOutputs s u.outputs
  pub output_order : AreInOrder output_name u.outputs
  -- each list has no more parts than there are in the file
  pub few_parameters : length u.parameters ≤ parameter_count s
  pub few_variables : length u.variables ≤ variable_count s
  pub few_outputs : length u.outputs ≤ output_count s
  pub resources : AreBuilt z s us (in_template z (file_in s)) u.resources
