-- Paths into a template, and positions: the path of an instance, with its index after the path of each looped resource.
use Rattle.std.specs.Prelude.{ℕ, List, [], ◌∷◌, ◌++◌, codes, slice_get, Option, Some, None}
use Rattle.std.specs.Fmt.{decimal}
use Rattle.template_parts.specs.declared.looping.ResourceCopy.{ResourceCopy}
use Rattle.template_tree.specs.Tree.{TemplateTree}
use Rattle.deploy_cells.specs.Cells.{Step, Position}
use Rattle.plan_sight.specs.Resources.{Listed, resources_in}
use Rattle.plan_sight.specs.Scopes.{template_at}
use Rattle.plan_paths.specs.Resources.{below, path_at}

-- how an instance is written: by the path of its resource, or with its index after that
pub data Style : Type 0 where
  a_path : Style
  a_position : Style

-- `[i]`, where the resource has a loop
abbrev pub index_of : Option ResourceCopy → ℕ → List ℕ
index_of None i = []
index_of (Some c) i = 91 ∷ (decimal i ++ 93 ∷ [])

abbrev pub index_in : Style → Option ResourceCopy → ℕ → List ℕ
index_in a_path c i = []
index_in a_position c i = index_of c i

abbrev pub loop_in : Option Listed → Option ResourceCopy
loop_in None = None
loop_in (Some x) = x.declaration.copy

-- an instance of a resource of a template
abbrev pub instance_in : Style → TemplateTree → Step → List ℕ
instance_in w u s = path_at u s.resource ++ index_in w (loop_in (slice_get (resources_in u) s.resource)) s.copy

abbrev pub instance_at : Style → Option TemplateTree → Step → List ℕ
instance_at w None s = []
instance_at w (Some u) s = instance_in w u s

-- the template of the nested deployment at a path
abbrev pub inside : List ℕ → List ℕ
inside path = below (below path (codes "properties")) (codes "template")

-- a scope: that of the root is empty
unfoldable pub scope_text : Style → TemplateTree → Position → List ℕ
scope_text w t [] = []
scope_text w t (s ∷ p) = inside (scope_text w t p ++ instance_at w (template_at t p) s)

-- an instance of a scope
abbrev pub instance_text : Style → TemplateTree → Position → Step → List ℕ
instance_text w t p s = scope_text w t p ++ instance_at w (template_at t p) s
