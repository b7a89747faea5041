-- Where in a template the text of a cell is.
use Rattle.std.specs.Prelude.{ℕ, List, [], ◌++◌, codes, Option, Some, None, option_and_then}
use Rattle.std.specs.Fmt.{decimal}
use Rattle.arm_value.specs.Pointer.{step as pointed}
use Rattle.template_tree.specs.Tree.{TemplateTree}
use Rattle.deploy_cells.specs.Cells.{Step, step, Position, Cell, parameter, variable, offered, output, count, included}
use Rattle.deploy_cells.specs.Cells.{name, deployments, state}
use Rattle.plan_sight.specs.Scopes.{template_at}
use Rattle.plan_sight.specs.Sites.{parameter_named, variable_named, output_named}
use Rattle.plan_paths.specs.Resources.{below}
use Rattle.plan_paths.specs.Texts.{a_path, scope_text, instance_text}

-- a name as it is written, where something of the name is declared
abbrev pub written : {A : Type 0} → (A → List ℕ) → List ℕ → Option A → List ℕ
written f x None = x
written f x (Some a) = f a

-- the member of a name, in a member of a scope
abbrev pub named_path : TemplateTree → Position → List ℕ → List ℕ → List ℕ
named_path t p list x = below (below (scope_text a_path t p) list) x

-- the member of an instance
abbrev pub member_path : TemplateTree → Position → Step → List ℕ → List ℕ
member_path t p s x = below (instance_text a_path t p s) x

module _ (t : TemplateTree) where
  abbrev pub output_path : Position → List ℕ → List ℕ
  output_path p x =
      named_path t p (codes "outputs") (written (λ o. o.name) x (option_and_then (output_named x) (template_at t p)))

  -- the path of a parameter, a variable, an output, a count, a condition or a name
  unfoldable pub cell_path : Cell → List ℕ
  cell_path (parameter p x) =
      named_path t p (codes "parameters")
      (written (λ q. q.name) x (option_and_then (parameter_named x) (template_at t p)))
  cell_path (variable p x) =
      named_path t p (codes "variables")
      (written (λ v. v.name) x (option_and_then (variable_named x) (template_at t p)))
  cell_path (offered p x) = below (output_path p x) (codes "condition")
  cell_path (output p x) = below (output_path p x) (codes "value")
  cell_path (count p r) = below (member_path t p (step r 0) (codes "copy")) (codes "count")
  cell_path (included p s) = member_path t p s (codes "condition")
  cell_path (name p s) = member_path t p s (codes "name")
  cell_path (deployments p) = below (scope_text a_path t p) (codes "resources")
  cell_path (state k) = []

-- the path of an element of `dependsOn` of an instance
abbrev pub element_path : TemplateTree → Position → Step → ℕ → List ℕ
element_path t p s k = member_path t p s (codes "dependsOn") ++ pointed (decimal k)
