-- The resources of a template in one list: each before its children, with its full type.
use Rattle.std.specs.Prelude.{ℕ, suc, ◌+◌, Bool, false, List, [], ◌∷◌, ◌++◌, Option, Some, None, slice_get}
use Rattle.std.specs.Prelude.{option_and_then, is_some, if◌then◌else◌}
use Rattle.template_parameters.specs.Json.{Member}
use Rattle.template_parameters.specs.Argument.{Argument}
use Rattle.template_parameters.specs.Declaration.{Declaration}
use Rattle.template_parameters.specs.Scope.{Scope}
use Rattle.template_parameters.specs.Tree.{Header, TemplateTree, template, ResourceTree, resource, BodyTree, body_members, deployment, Trees, no_resources, a_resource}

-- the resource that has another as its child: its number in the list, and its full type
pub record Above : Type 0 where
  pub number : ℕ
  pub type : List ℕ

-- a resource in the list
pub record Listed : Type 0 where
  pub declaration : Declaration
  pub content : BodyTree
  pub type : List ℕ
  pub above : Option Above

-- the full type: that of the parent, a slash, and its own
abbrev pub type_under : Option Above → List ℕ → List ℕ
type_under None kind = kind
type_under (Some a) kind = a.type ++ 47 ∷ kind

-- how many there are, with all children
abbrev mutual
  pub tree_count : ResourceTree → ℕ
  tree_count (resource d b rs) = suc (trees_count rs)

  pub trees_count : Trees → ℕ
  trees_count no_resources = 0
  trees_count (a_resource r rs) = tree_count r + trees_count rs

abbrev pub listed_at : Option Above → Declaration → BodyTree → Listed
listed_at o d b = record { declaration = d; content = b; type = type_under o d.kind; above = o }

abbrev pub above_by : Option Above → ℕ → Declaration → Above
above_by o n d = record { number = n; type = type_under o d.kind }

-- a resource and its children, of which the first number is n
abbrev mutual
  pub listed_tree : Option Above → ℕ → ResourceTree → List Listed
  listed_tree o n (resource d b rs) = listed_at o d b ∷ listed_trees (Some (above_by o n d)) (suc n) rs

  pub listed_trees : Option Above → ℕ → Trees → List Listed
  listed_trees o n no_resources = []
  listed_trees o n (a_resource r rs) = listed_tree o n r ++ listed_trees o (n + tree_count r) rs

abbrev pub header_in : TemplateTree → Header
header_in (template h rs) = h

abbrev pub trees_in : TemplateTree → Trees
trees_in (template h rs) = rs

-- all resources of a template, existing ones among them
abbrev pub resources_in : TemplateTree → List Listed
resources_in t = listed_trees None 0 (trees_in t)

abbrev pub unless_existing : Listed → Option Listed
unless_existing r = if r.declaration.existing then None else Some r

-- the resource of a number, unless it is existing
unfoldable pub resource_at : TemplateTree → ℕ → Option Listed
resource_at t n = option_and_then unless_existing (slice_get (resources_in t) n)

-- the template of a nested deployment, and what is given to it
pub record Nested : Type 0 where
  pub scope : Scope
  pub arguments : List Argument
  pub template : TemplateTree

abbrev pub nested_in : BodyTree → Option Nested
nested_in (body_members ms) = None
nested_in (deployment s ps t) = Some (record { scope = s; arguments = ps; template = t })

abbrev pub members_in : BodyTree → Option (List Member)
members_in (body_members ms) = Some ms
members_in (deployment s ps t) = None

-- the nested deployment of a number
abbrev pub nested_at : TemplateTree → ℕ → Option Nested
nested_at t n = option_and_then (λ r. nested_in r.content) (resource_at t n)

-- whether it is a nested deployment that is not existing
abbrev pub is_nested : Listed → Bool
is_nested r = if r.declaration.existing then false else is_some (nested_in r.content)

abbrev pub nested_from : ℕ → List Listed → List ℕ
nested_from n [] = []
nested_from n (r ∷ rs) = if is_nested r then n ∷ nested_from (suc n) rs else nested_from (suc n) rs

-- the numbers of the nested deployments of a template
abbrev pub nested_numbers : TemplateTree → List ℕ
nested_numbers t = nested_from 0 (resources_in t)
