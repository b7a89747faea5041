-- The scopes of a deployment: the template of each, whose parameters and variables its expressions see, which nested
-- deployments they can name, and which loops are around it.
use Rattle.std.specs.Prelude.{ℕ, Bool, true, false, List, [], ◌∷◌, ◌++◌, Option, Some, None, option_map}
use Rattle.std.specs.Prelude.{option_and_then}
use Rattle.std.specs.Prelude.{if◌then◌else◌}
use Rattle.template_parameters.specs.Json.{Json, text}
use Rattle.deploy_cells.specs.Place.{Place}
use Rattle.reading.specs.Reading.{done, pure, read, continued}
use Rattle.arm_eval.specs.Looping.{Looping}
use Rattle.template_parameters.specs.ResourceCopy.{ResourceCopy}
use Rattle.template_parameters.specs.Scope.{Scope}
use Rattle.template_parameters.specs.Scope.TheVariants.{Outer, Inner}
use Rattle.template_parameters.specs.Tree.{TemplateTree}
use Rattle.deploy_cells.specs.Cells.{Step, Position, name}
use Rattle.deploy_cells.specs.Guarded.{Reads}
use Rattle.plan_cells.specs.Resources.{Listed, Nested, resource_at, nested_at}

-- the template of the scope at a position
unfoldable pub template_at : TemplateTree → Position → Option TemplateTree
template_at t [] = Some t
template_at t (s ∷ p) = option_map (λ n. n.template) (option_and_then (λ u. nested_at u s.resource) (template_at t p))

-- the resource of an instance, and the nested deployment that it is
abbrev pub resource_of : TemplateTree → Position → ℕ → Option Listed
resource_of t p r = option_and_then (λ u. resource_at u r) (template_at t p)

abbrev pub nested_of : TemplateTree → Position → Step → Option Nested
nested_of t p s = option_and_then (λ u. nested_at u s.resource) (template_at t p)

abbrev pub is_outer_scope : Scope → Bool
is_outer_scope Outer = true
is_outer_scope Inner = false

abbrev pub is_outer : Option Nested → Bool
is_outer None = false
is_outer (Some n) = is_outer_scope n.scope

-- the scope whose parameters, variables and deployment name expressions see: the nearest, outwards, that is not outer
unfoldable pub owner : TemplateTree → Position → Position
owner t [] = []
owner t (s ∷ p) = if is_outer (nested_of t p s) then owner t p else s ∷ p

-- the scopes in which a nested deployment is sought: the scope itself, and then outwards through outer scopes
unfoldable pub visible : TemplateTree → Position → List Position
visible t [] = [] ∷ []
visible t (s ∷ p) = (s ∷ p) ∷ (if is_outer (nested_of t p s) then visible t p else [])

abbrev pub loop_at : Option ResourceCopy → ℕ → List Looping
loop_at None i = []
loop_at (Some c) i = record { name = Some c.name; index = i; main = true } ∷ []

-- the loop of a resource, at an index
abbrev pub loop_of : Option Listed → ℕ → List Looping
loop_of None i = []
loop_of (Some r) i = loop_at r.declaration.copy i

-- the loops around a scope, the nearest first: around an outer one those of its nested deployment, around another none
unfoldable pub loops_around : TemplateTree → Position → List Looping
loops_around t [] = []
loops_around t (s ∷ p) =
    if is_outer (nested_of t p s) then loop_of (resource_of t p s.resource) s.copy ++ loops_around t p else []

-- the loops around what an instance has
abbrev pub loops_inside : TemplateTree → Position → Step → List Looping
loops_inside t p s = loop_of (resource_of t p s.resource) s.copy ++ loops_around t p

abbrev pub with_deployment : Place → Json → Option Place
with_deployment place (text n) = Some (record place { deployment = n })
with_deployment place _ = None

-- the place of a scope that is not outer: that of the root, with the name of the scope's nested deployment
abbrev pub own_place : Place → Position → Reads Place
own_place place [] = pure place
own_place place (s ∷ p) = continued (read (name p s)) (λ n. done (with_deployment place n))
