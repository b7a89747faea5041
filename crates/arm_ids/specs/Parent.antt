-- Which key is below which.
use Rattle.std.specs.Prelude.{◌≡◌, ℕ, ◌&&◌, Bool, List, [], ◌∷◌, ◌++◌, bytes_eq}
use Rattle.arm_ids.specs.Segments.{is_front}
use Rattle.arm_ids.specs.declared.id.ResourceId.{ResourceId}

-- the child is the key with one type and one name segment more
abbrev pub IsParent : ResourceId → ResourceId → Type 0
IsParent key child =
    (kind : List ℕ)
    × ((name : List ℕ) × (child ≡ record key { types = key.types ++ kind ∷ []; names = key.names ++ name ∷ [] }))

-- whether the types and names of the second begin with those of the first, in the same subscription and group
abbrev pub begins : ResourceId → ResourceId → Bool
begins i j =
    bytes_eq i.subscription j.subscription
    && (bytes_eq i.group j.group && (is_front i.types j.types && is_front i.names j.names))
