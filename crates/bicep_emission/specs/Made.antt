-- Ids of a type and names in a place.
use Rattle.std.specs.Prelude.{ℕ, ◌&&◌, not, Bool, List, Option, Some, None, if◌then◌else◌}
use Rattle.std.specs.List.{list_any}
use Rattle.arm_ids.specs.Id.{is_whole}
use Rattle.arm_ids.specs.Segments.{segments, has_slash}
use Rattle.arm_ids.specs.declared.id.Place.{Place}
use Rattle.arm_ids.specs.declared.id.ResourceId.{ResourceId}

-- the id of a type and names in a place
abbrev pub made : Place → List ℕ → List (List ℕ) → ResourceId
made place kind ns =
    record { subscription = place.subscription; group = place.group; types = segments kind; names = ns }

-- whether it is an id: no part is empty, there is a name for each segment of the type but the first, and no name has a
-- slash
abbrev pub is_made : Place → List ℕ → List (List ℕ) → Bool
is_made place kind ns = is_whole (made place kind ns) && not (list_any has_slash ns)

-- where it is an id
abbrev pub made_whole : Place → List ℕ → List (List ℕ) → Option ResourceId
made_whole place kind ns = if is_made place kind ns then Some (made place kind ns) else None
