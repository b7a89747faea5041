-- What a scope covers.
use Rattle.std.specs.Prelude.{◌≡◌, ℕ, List, [], ◌∷◌, ◌++◌}
use Rattle.arm_value.specs.Look.{fold}
use Rattle.arm_ids.specs.Id.{path}
use Rattle.arm_ids.specs.declared.id.ResourceId.{ResourceId}
use Rattle.arm_ids.specs.declared.scope.Scope.{Scope}
use Rattle.arm_ids.specs.declared.scope.Scope.TheVariants.{Subscription, Group, Resource}

-- the segments that identify a key: the subscription, the group, the provider's name, then a type and a name by turns
abbrev pub key_segments : ResourceId → List (List ℕ)
key_segments key = key.subscription ∷ key.group ∷ path key.types key.names

-- the segments of a scope, in small ASCII letters
abbrev pub scope_segments : Scope → List (List ℕ)
scope_segments (Subscription subscription) = fold subscription ∷ []
scope_segments (Group subscription group) = fold subscription ∷ fold group ∷ []
scope_segments (Resource key) = key_segments key

-- both are one scope: their segments are equal
abbrev pub IsSame : Scope → Scope → Type 0
IsSame scope other = scope_segments scope ≡ scope_segments other

-- the segments of the inner scope begin with those of the outer one
abbrev pub Includes : Scope → Scope → Type 0
Includes outer inner = (rest : List (List ℕ)) × (scope_segments inner ≡ scope_segments outer ++ rest)

-- the scope covers the resource of a key
abbrev pub Covers : Scope → ResourceId → Type 0
Covers scope key = Includes scope (Resource key)

-- the scope covers a group of a subscription
abbrev pub CoversGroup : Scope → List ℕ → List ℕ → Type 0
CoversGroup scope subscription group = Includes scope (Group subscription group)

-- the scope is a group of a subscription, or a resource in that group
abbrev pub IsInGroup : Scope → List ℕ → List ℕ → Type 0
IsInGroup scope subscription group = Includes (Group subscription group) scope
