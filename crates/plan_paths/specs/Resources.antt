-- Where the resources of a template are, as JSON pointers (RFC 6901).
use Rattle.std.specs.Prelude.{ℕ, suc, List, [], ◌∷◌, ◌++◌, codes, slice_index_or, Option, Some, None}
use Rattle.std.specs.Fmt.{decimal}
use Rattle.arm_value.specs.Pointer.{step, token}
use Rattle.template_parts.specs.declared.declaration.Declaration.{Declaration}
use Rattle.template_tree.specs.Tree.{TemplateTree, ResourceTree, resource, Trees, no_resources, a_resource}
use Rattle.plan_sight.specs.Resources.{trees_in}

-- the member of a name, below a path
abbrev pub below : List ℕ → List ℕ → List ℕ
below path name = path ++ step (token name)

abbrev pub place_by : ℕ → Option (List ℕ) → List ℕ
place_by i None = decimal i
place_by i (Some x) = token x

-- where a resource is in the member that lists it: at its symbolic name, or else at its number there
abbrev pub place_of : ℕ → Declaration → List ℕ
place_of i d = place_by i d.symbol

abbrev pub declaration_in : ResourceTree → Declaration
declaration_in (resource d b rs) = d

abbrev mutual
  -- the paths of a resource and of its children in one list
  pub tree_paths : List ℕ → ResourceTree → List (List ℕ)
  tree_paths path (resource d b rs) = path ∷ trees_paths (below path (codes "resources")) 0 rs

  -- of resources in the member at this path, where the first has the number i
  pub trees_paths : List ℕ → ℕ → Trees → List (List ℕ)
  trees_paths path i no_resources = []
  trees_paths path i (a_resource r rs) =
      tree_paths (path ++ step (place_of i (declaration_in r))) r ++ trees_paths path (suc i) rs

-- the paths of all resources of a template, in the order of their numbers
abbrev pub paths_in : TemplateTree → List (List ℕ)
paths_in t = trees_paths (below [] (codes "resources")) 0 (trees_in t)

-- the path of the resource of a number
abbrev pub path_at : TemplateTree → ℕ → List ℕ
path_at t r = slice_index_or (paths_in t) r []
