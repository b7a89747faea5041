-- Templates that are made have the parts of their files.
use Rattle.std.proofs.Common.{◌≤◌, ℕ, List, length, Option, Result, Ok, Err, sym, subst}
use Rattle.std.specs.Prelude.{IfOk}
use Rattle.std.specs.declared.alloc.AllocError.{AllocError}
use Rattle.template_parts.specs.declared.mode.Form.{Form}
use Rattle.template_parts.specs.declared.parameter.Parameter.{Parameter}
use Rattle.template_tree.specs.Tree.{ResourceTree}
use Rattle.template_tree.specs.View.{template_tree, header_of}
use Rattle.template_tree.specs.declared.resource.Template.{Template}
use Rattle.source_worlds.specs.Numbers.{in_template}
use Rattle.file_lists.specs.Lists.{AreParameters, AreVariables, AreOutputs, AreDivided, parameter_name, output_name}
use Rattle.file_lists.specs.Lists.{parameter_count, variable_count, output_count}
use Rattle.file_lists.specs.Order.{AreInOrder}
use Rattle.file_resources.specs.Built.{Templates, AreBuilt}
use Rattle.file_resources.specs.Fits.{IsReady}
use Rattle.file_resources.specs.Seen.{Shape, file_in}
use Rattle.file_resources.specs.Within.{IsWithin}
use Rattle.file_resources.proofs.ListedLemmas.{resources_are, dependents_are, none_exist}
use Rattle.file_resources.proofs.NestedLemmas.{modules_are}
use Rattle.emitted_templates.specs.Parts.{HasParts}
use Rattle.emitted_templates.specs.Templates.{AreListsOf, IsMadeOf, IsTemplateOf}
use Rattle.emitted_templates.specs.declared.lists.Listed.{Listed}

module _ (z : Form) (s : Shape) (rs : List (Option Parameter)) (us : Templates) where
  template_of : (x : Listed) (resources : List ResourceTree) (u : Template) → AreListsOf s rs x
      → AreBuilt z s us (in_template z (file_in s)) resources → IsMadeOf z x resources u → IsTemplateOf z s rs us u
  template_of x resources u l r m = record {
    form = m.form;
    address = m.address;
    version = m.version;
    parameters = subst (AreParameters s rs) (sym m.parameters) l.parameters;
    parameter_order = subst (AreInOrder parameter_name) (sym m.parameters) l.parameter_order;
    variables = subst (AreVariables s) (sym m.variables) l.variables;
    variable_order = subst AreDivided (sym m.variables) l.variable_order;
    outputs = subst (AreOutputs s) (sym m.outputs) l.outputs;
    output_order = subst (AreInOrder output_name) (sym m.outputs) l.output_order;
    few_parameters = subst (λ xs. length xs ≤ parameter_count s) (sym m.parameters) l.few_parameters;
    few_variables = subst (λ xs. length xs ≤ variable_count s) (sym m.variables) l.few_variables;
    few_outputs = subst (λ xs. length xs ≤ output_count s) (sym m.outputs) l.few_outputs;
    resources = subst (AreBuilt z s us (in_template z (file_in s))) (sym m.same_resources) r;
  }

  -- the template of these lists and resources, or no memory
  pub is_template : (x : Listed) (resources : List ResourceTree) → AreListsOf s rs x
      → AreBuilt z s us (in_template z (file_in s)) resources → (r : Result Template AllocError)
      → IfOk r (IsMadeOf z x resources) → IfOk r (IsTemplateOf z s rs us)
  is_template x resources l b (Ok u) m = template_of x resources u l b m
  is_template x resources l b (Err e) m = tt

  pub has_parts : (u : Template) → IsReady s → ((n : ℕ) → IsWithin z s n) → IsTemplateOf z s rs us u
      → HasParts z s rs (template_tree u)
  has_parts u ready within t = record {
    form = t.form;
    parameters = t.parameters;
    variables = t.variables;
    outputs = t.outputs;
    resources = resources_are z s us ready.paired within (header_of u) u.resources t.resources;
    dependents = dependents_are z s us ready.paired within (header_of u) u.resources t.resources;
    none_exist = none_exist s us z (header_of u) u.resources t.resources;
    modules = modules_are z s us (header_of u) u.resources t.resources;
  }
