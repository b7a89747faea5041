-- What a template is: a tree of resources, with their children and the templates of nested deployments.
use Rattle.std.specs.Prelude.{ℕ, suc, max, List, [], ◌∷◌}
use Rattle.arm_value.specs.Json.{Member}
use Rattle.template_parts.specs.declared.content.Argument.{Argument}
use Rattle.template_parts.specs.declared.declaration.Declaration.{Declaration}
use Rattle.template_parts.specs.declared.mode.Form.{Form}
use Rattle.template_parts.specs.declared.mode.Scope.{Scope}
use Rattle.template_parts.specs.declared.output.Output.{Output}
use Rattle.template_parts.specs.declared.parameter.Parameter.{Parameter}
use Rattle.template_parts.specs.declared.variable.Variable.{Variable}

-- a template but for its resources
pub record Header : Type 0 where
  pub form : Form
  pub schema : List ℕ
  pub content_version : List ℕ
  pub parameters : List Parameter
  pub variables : List Variable
  pub outputs : List Output

mutual
  pub data TemplateTree : Type 0 where
    template : Header → Trees → TemplateTree

  -- a resource: what declares it, its body and its children
  pub data ResourceTree : Type 0 where
    resource : Declaration → BodyTree → Trees → ResourceTree

  pub data BodyTree : Type 0 where
    body_members : List Member → BodyTree
    deployment : Scope → List Argument → TemplateTree → BodyTree

  pub data Trees : Type 0 where
    no_resources : Trees
    a_resource : ResourceTree → Trees → Trees

abbrev pub trees : List ResourceTree → Trees
trees [] = no_resources
trees (r ∷ rs) = a_resource r (trees rs)

-- how deep children and nested templates are, counted from the resources of a template
abbrev mutual
  pub template_depth : TemplateTree → ℕ
  template_depth (template h rs) = trees_depth rs

  pub tree_depth : ResourceTree → ℕ
  tree_depth (resource d b rs) = suc (max (body_depth b) (trees_depth rs))

  pub body_depth : BodyTree → ℕ
  body_depth (body_members ms) = 0
  body_depth (deployment s ps t) = template_depth t

  pub trees_depth : Trees → ℕ
  trees_depth no_resources = 0
  trees_depth (a_resource r rs) = max (tree_depth r) (trees_depth rs)
