-- What nested deployments give for parameters that their templates lack.
use Rattle.std.specs.Prelude.{◌≡◌, ℕ, true, List, ◌∷◌, map, Some, None}
use Rattle.arm_value.specs.Look.{fold}
use Rattle.template_parts.specs.declared.content.Argument.{Argument}
use Rattle.template_tree.specs.Tree.{TemplateTree}
use Rattle.deploy_cells.specs.Cells.{Step, Position}
use Rattle.plan_cells.specs.Children.{Has}
use Rattle.plan_cells.specs.Meaning.{is_own}
use Rattle.plan_cells.specs.Resources.{Nested, header_in}
use Rattle.plan_cells.specs.Scopes.{nested_of}
use Rattle.plan_cells.specs.Sites.{parameter_named}
use Rattle.plan_table.specs.declared.table.Table.{Table}
use Rattle.plan_table.specs.Whole.{whole_of}
use Rattle.plan_table.specs.Found.{scope_at}

-- the names of the parameters of a template
abbrev pub parameter_titles : TemplateTree → List (List ℕ)
parameter_titles u = map (λ p. p.name) (header_in u).parameters

-- the nested deployment that opened the scope of this number gives this for a parameter that its template lacks
pub record IsExtraOf (t : Table) (g : ℕ) (a : Argument) : Type 0 where
  pub around : Position
  pub instance : Step
  pub position : (scope_at t g).position ≡ instance ∷ around
  pub is_own : is_own (whole_of t) (instance ∷ around) ≡ true
  pub nested : Nested
  pub is_nested : nested_of (whole_of t).template around instance ≡ Some nested
  pub is_given : Has a nested.arguments
  pub has_none : parameter_named (fold a.name) nested.template ≡ None

abbrev pub IsWithoutExtra : Table → ℕ → Type 0
IsWithoutExtra t g = (a : Argument) → IsExtraOf t g a → ⊥
