-- Names that may not be where they are.
use Rattle.std.specs.Prelude.{ℕ, ◌&&◌, ◌||◌, Bool, not, List, [], ◌∷◌, codes, bytes_eq}
use Rattle.arm_value.specs.Look.{is_among}
use Rattle.arm_expr.specs.Brackets.{is_bracketed}
use Rattle.bicep_misplaced.specs.declared.spot.Spot.{Spot}
use Rattle.bicep_misplaced.specs.declared.spot.Spot.TheVariants as spot
use Rattle.bicep_misplaced.specs.declared.spot.Owner.{Owner}
use Rattle.bicep_misplaced.specs.declared.spot.Owner.TheVariants as owner

unfoldable pub copying : List (List ℕ)
copying = codes "copy" ∷ []

-- `copy`, which makes a loop in a template
abbrev pub is_copy : List ℕ → Bool
is_copy name = is_among copying name

-- the name of a property that may not be at the spot
abbrev pub is_bad_name : Spot → List ℕ → Bool
is_bad_name spot.Outside name = is_bracketed name
is_bad_name spot.Field name = is_bracketed name || is_copy name
is_bad_name spot.Inside name = is_bracketed name || is_copy name

-- the fields of a resource that a template has beside its body
unfoldable pub taken : List (List ℕ)
taken = codes "scope" ∷ codes "type" ∷ codes "apiVersion" ∷ codes "condition" ∷ codes "resources" ∷ codes "comments" ∷
    codes "metadata" ∷ codes "subscriptionId" ∷ codes "resourceGroup" ∷ codes "existing" ∷ []

-- the fields of a resource that are no part of its body
unfoldable pub own : List (List ℕ)
own = codes "name" ∷ codes "parent" ∷ codes "dependsOn" ∷ []

-- the fields that are no part of a body, letter by letter: a nested resource has no `parent`
abbrev pub is_own : Owner → List ℕ → Bool
is_own owner.Resource name =
    bytes_eq name (codes "name") || (bytes_eq name (codes "parent") || bytes_eq name (codes "dependsOn"))
is_own owner.Nested name = bytes_eq name (codes "name") || bytes_eq name (codes "dependsOn")
is_own owner.Module name =
    bytes_eq name (codes "name") || (bytes_eq name (codes "params") || bytes_eq name (codes "dependsOn"))

-- a field that a resource may not have: one that a template has beside the body, or one of its own in other letters
abbrev pub is_bad_of_resource : Owner → List ℕ → Bool
is_bad_of_resource o name = is_among taken name || (is_among own name && not (is_own o name))

-- a field that a resource or a module may not have; a module has no others than its own
abbrev pub is_bad_field : Owner → List ℕ → Bool
is_bad_field owner.Resource name = is_bad_of_resource owner.Resource name
is_bad_field owner.Nested name = is_bad_of_resource owner.Nested name
is_bad_field owner.Module name = not (is_own owner.Module name)
