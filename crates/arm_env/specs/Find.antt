-- Which resource a text of `reference` names (Microsoft Learn, "Template functions", `reference`).
use Rattle.std.specs.Prelude.{ℕ, ◌&&◌, ◌||◌, not, Bool, true, false, List, [], ◌∷◌, ◌++◌, bytes_eq}
use Rattle.std.specs.Prelude.{Option, Some, None, option_map, if◌then◌else◌}
use Rattle.arm_value.specs.Look.{is_same_folded}
use Rattle.arm_ids.specs.Segments.{joined}
use Rattle.arm_ids.specs.Id.{reading, folded}
use Rattle.arm_ids.specs.declared.id.ResourceId.{ResourceId}
use Rattle.arm_env.specs.declared.env.Spelled.{Spelled}
use Rattle.arm_env.specs.Look.{Declared}

-- whether both lists have the same texts
abbrev pub are_same : List (List ℕ) → List (List ℕ) → Bool
are_same [] [] = true
are_same (x ∷ xs) (y ∷ ys) = bytes_eq x y && are_same xs ys
are_same _ _ = false

-- whether both are one key
abbrev pub is_same_key : ResourceId → ResourceId → Bool
is_same_key i j =
    bytes_eq i.subscription j.subscription
    && (bytes_eq i.group j.group && (are_same i.types j.types && are_same i.names j.names))

-- the first output of the name
abbrev pub output_named : List ℕ → List Declared → Option Declared
output_named name [] = None
output_named name (x ∷ xs) = if is_same_folded name x.name then Some x else output_named name xs

-- the key of which the text is an id
abbrev pub id_key : List ℕ → Option ResourceId
id_key t = option_map folded (reading t)

-- whether the text is the resource's type and name, or its full name
abbrev pub names_resource : List ℕ → Spelled → Bool
names_resource t s = is_same_folded t s.spelling || is_same_folded t (joined s.key.names)

-- the key of the first resource that the text names
abbrev pub first_named : List ℕ → List Spelled → Option ResourceId
first_named t [] = None
first_named t (s ∷ ss) = if names_resource t s then Some s.key else first_named t ss

-- whether the text names no resource of another key
abbrev pub names_only : List ℕ → ResourceId → List Spelled → Bool
names_only t k [] = true
names_only t k (s ∷ ss) = (not (names_resource t s) || is_same_key k s.key) && names_only t k ss

-- whether the text is the key's type and name, or its full name
abbrev pub names_key : List ℕ → ResourceId → Bool
names_key t k =
    is_same_folded t (joined k.types ++ 47 ∷ joined k.names) || is_same_folded t (joined k.names)

-- the key of the first of the keys that the text names
abbrev pub first_key : List ℕ → List ResourceId → Option ResourceId
first_key t [] = None
first_key t (k ∷ ks) = if names_key t k then Some k else first_key t ks

-- the one key of the template that the text names, or else that of a deployment around
abbrev pub by_name : List ℕ → List Spelled → List ResourceId → Option ResourceId → Option ResourceId
by_name t names around None = first_key t around
by_name t names around (Some k) = if names_only t k names then Some k else None

-- the key that the text names as a type and name, or as a full name
abbrev pub key_named : List ℕ → List Spelled → List ResourceId → Option ResourceId
key_named t names around = by_name t names around (first_named t names)
