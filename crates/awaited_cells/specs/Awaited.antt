-- Which parameters, variables and outputs a value of a task may wait for.
use Rattle.std.specs.Prelude.{◌≡◌, ◌⊎◌, ℕ, List, [], ◌∷◌, Some}
use Rattle.template_tree.specs.Tree.{TemplateTree}
use Rattle.deploy_cells.specs.Cells.{Position, Cell, parameter, variable, offered, output, count, included, name}
use Rattle.deploy_cells.specs.Cells.{deployments, state}
use Rattle.plan_cells.specs.Children.{Has, output_names}
use Rattle.plan_cells.specs.Meaning.{Deployment}
use Rattle.plan_cells.specs.Reads.{entry_cells}
use Rattle.plan_cells.specs.Scopes.{template_at, owner}

-- the scope has a template, which declares an output of the name
pub record IsDeclaredAt (d : Deployment) (p : Position) (x : List ℕ) : Type 0 where
  pub template : TemplateTree
  pub is_there : template_at d.template p ≡ Some template
  pub declares : Has x (output_names template)

-- an expression in the scope may see the cell: a parameter or a variable that the scope has, or for an outer scope the
-- one around; an output that is declared; or any other cell
abbrev pub MaySee : Deployment → Position → Cell → Type 0
MaySee d p (parameter q x) = Has (parameter q x) (entry_cells d (owner d.template p))
MaySee d p (variable q x) = Has (variable q x) (entry_cells d (owner d.template p))
MaySee d p (offered q x) = IsDeclaredAt d q x
MaySee d p (output q x) = IsDeclaredAt d q x
MaySee d p (count q r) = Unit {0}
MaySee d p (included q s) = Unit {0}
MaySee d p (name q s) = Unit {0}
MaySee d p (deployments q) = Unit {0}
MaySee d p (state k) = Unit {0}

-- an expression in the scope, or one that is given for a parameter of it from the scope around, may see the cell
abbrev pub MaySeeAround : Deployment → Position → Cell → Type 0
MaySeeAround d [] c = MaySee d [] c
MaySeeAround d (s ∷ p) c = MaySee d (s ∷ p) c ⊎ MaySee d p c
