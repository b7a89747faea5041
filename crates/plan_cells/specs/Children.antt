-- Which cells are there: those of the root, and those that the value of another cell opens.
use Rattle.std.specs.Prelude.{◌≡◌, ◌⊎◌, ℕ, zero, suc, Bool, true, false, List, [], ◌∷◌, ◌++◌, map, Option, Some}
use Rattle.std.specs.Prelude.{None, if◌then◌else◌}
use Rattle.template_parameters.specs.Json.{Json}
use Rattle.template_parameters.specs.Look.{fold}
use Rattle.template_parameters.specs.Tree.{TemplateTree, template, ResourceTree, resource, BodyTree, body_members, deployment, Trees, no_resources, a_resource, Header}
use Rattle.deploy_cells.specs.Cells.{Step, step, Position, Cell, parameter, variable, offered, output, count, included, name, deployments, copies}
use Rattle.plan_cells.specs.Resources.{Listed, header_in, resources_in}
use Rattle.plan_cells.specs.Scopes.{template_at}
use Rattle.plan_cells.specs.Meaning.{Deployment, is_own}
use Rattle.template_parameters.specs.Kinds.{is_true}

abbrev pub Has : {A : Type 0} → A → List A → Type 0
Has x [] = ⊥
Has x (y ∷ ys) = (y ≡ x) ⊎ Has x ys

-- each is there once
abbrev pub AreApart : {A : Type 0} → List A → Type 0
AreApart [] = Unit {0}
AreApart (x ∷ xs) = (Has x xs → ⊥) × AreApart xs

-- the folded names of a template
abbrev pub parameter_names : TemplateTree → List (List ℕ)
parameter_names t = map (λ p. fold p.name) (header_in t).parameters

abbrev pub variable_names : TemplateTree → List (List ℕ)
variable_names t = map (λ v. fold v.name) (header_in t).variables

abbrev pub output_names : TemplateTree → List (List ℕ)
output_names t = map (λ o. fold o.name) (header_in t).outputs

-- names of one sort differ after folding
pub record HasOwnNames (h : Header) : Type 0 where
  pub parameters : AreApart (map (λ p. fold p.name) h.parameters)
  pub variables : AreApart (map (λ v. fold v.name) h.variables)
  pub outputs : AreApart (map (λ o. fold o.name) h.outputs)

-- in a template and in all templates inside
abbrev mutual
  pub NamesDiffer : TemplateTree → Type 0
  NamesDiffer (template h rs) = HasOwnNames h × TreesNamesDiffer rs

  pub TreesNamesDiffer : Trees → Type 0
  TreesNamesDiffer no_resources = Unit {0}
  TreesNamesDiffer (a_resource r rs) = TreeNamesDiffer r × TreesNamesDiffer rs

  pub TreeNamesDiffer : ResourceTree → Type 0
  TreeNamesDiffer (resource d b rs) = BodyNamesDiffer b × TreesNamesDiffer rs

  pub BodyNamesDiffer : BodyTree → Type 0
  BodyNamesDiffer (body_members ms) = Unit {0}
  BodyNamesDiffer (deployment s ps t) = NamesDiffer t

-- the numbers from r on of resources that are not existing
abbrev pub numbers_from : ℕ → List Listed → List ℕ
numbers_from r [] = []
numbers_from r (x ∷ xs) = if x.declaration.existing then numbers_from (suc r) xs else r ∷ numbers_from (suc r) xs

abbrev pub numbers_in : TemplateTree → List ℕ
numbers_in t = numbers_from 0 (resources_in t)

-- parameters and variables, which an outer scope does not have
abbrev pub own_cells : Bool → Position → TemplateTree → List Cell
own_cells false p t = []
own_cells true p t = map (parameter p) (parameter_names t) ++ map (variable p) (variable_names t)

-- the cells of a scope that is there
abbrev pub scope_cells : Deployment → Position → TemplateTree → List Cell
scope_cells d p t =
    own_cells (is_own d p) p t
    ++ (map (offered p) (output_names t) ++ (map (count p) (numbers_in t) ++ deployments p ∷ []))

abbrev pub opened_cells : Deployment → Position → Option TemplateTree → List Cell
opened_cells d p None = []
opened_cells d p (Some t) = scope_cells d p t

-- n instances from index i on
abbrev pub steps : ℕ → ℕ → ℕ → List Step
steps r i zero = []
steps r i (suc n) = step r i ∷ steps r (suc i) n

abbrev pub instance_cells : Position → ℕ → ℕ → List Cell
instance_cells p r n = map (included p) (steps r 0 n) ++ map (name p) (steps r 0 n)

-- the cells of the root
unfoldable pub roots : Deployment → List Cell
roots d = scope_cells d [] d.template

-- the cells that are there where this cell has this value
unfoldable pub children : Deployment → Cell → Json → List Cell
children d (count p r) v = instance_cells p r (copies (Some v))
children d (included p s) v =
    if is_true (Some v) then opened_cells d (s ∷ p) (template_at d.template (s ∷ p)) else []
children d (offered p x) v = if is_true (Some v) then output p x ∷ [] else []
children d _ v = []
