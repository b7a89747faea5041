-- The ids that functions make (Microsoft Learn, "Template functions", resource).
use Rattle.std.specs.Prelude.{ℕ, suc, ◌==◌, ◌&&◌, not, Bool, List, [], ◌∷◌, length, Option, Some}
use Rattle.std.specs.Prelude.{None, codes, if◌then◌else◌}
use Rattle.std.specs.List.{list_any}
use Rattle.arm_ids.specs.Segments.{segments, slashed, is_empty, has_slash}
use Rattle.arm_ids.specs.Id.{path, text_of}
use Rattle.arm_ids.specs.declared.id.Place.{Place}
use Rattle.arm_ids.specs.declared.id.ResourceId.{ResourceId}

-- whether there is one name for each segment of the type after the first, none is empty, and no
-- name has a slash
abbrev pub are_paired : List (List ℕ) → List (List ℕ) → Bool
are_paired types names =
    (length types == suc (length names))
    && (not (list_any is_empty types)
    && (not (list_any is_empty names) && not (list_any has_slash names)))

-- a resource group of a subscription
pub record Group : Type 0 where
  pub subscription : List ℕ
  pub name : List ℕ

abbrev pub id_of : Group → List ℕ → List (List ℕ) → ResourceId
id_of group kind names =
    record { subscription = group.subscription; group = group.name; types = segments kind; names = names }

-- the id of a type and names in a group
abbrev pub id_in_group : Group → List ℕ → List (List ℕ) → Option (List ℕ)
id_in_group group kind names =
    if not (is_empty group.subscription) && (not (is_empty group.name) && are_paired (segments kind) names)
    then Some (text_of (id_of group kind names))
    else None

-- the id of a type and names in a subscription
abbrev pub id_in_subscription : List ℕ → List ℕ → List (List ℕ) → Option (List ℕ)
id_in_subscription subscription kind names =
    if not (is_empty subscription) && are_paired (segments kind) names
    then Some (slashed
    (codes "subscriptions" ∷ subscription ∷ codes "providers" ∷ path (segments kind) names))
    else None

-- `resourceId` of a subscription and a group, and then a type and names
abbrev pub with_both : Group → List (List ℕ) → Option (List ℕ)
with_both group [] = None
with_both group (t ∷ ts) = if has_slash t then id_in_group group t ts else None

-- of a group, or of a subscription and a group, where the first text is none of a type
abbrev pub with_group : List ℕ → List ℕ → List (List ℕ) → Option (List ℕ)
with_group subscription group [] = None
with_group subscription group (t ∷ ts) =
    if has_slash t then id_in_group (record { subscription = subscription; name = group }) t ts
    else with_both (record { subscription = group; name = t }) ts

-- the first text with a slash is the type: names follow it, and nothing, a group, or a subscription
-- and a group come before it
abbrev pub resource_id : Place → List (List ℕ) → Option (List ℕ)
resource_id place [] = None
resource_id place (t ∷ ts) =
    if has_slash t
    then id_in_group (record { subscription = place.subscription; name = place.group }) t ts
    else with_group place.subscription t ts

abbrev pub with_subscription : List ℕ → List (List ℕ) → Option (List ℕ)
with_subscription subscription [] = None
with_subscription subscription (t ∷ ts) =
    if has_slash t then id_in_subscription subscription t ts else None

-- likewise, with nothing or a subscription before the type
abbrev pub subscription_id : Place → List (List ℕ) → Option (List ℕ)
subscription_id place [] = None
subscription_id place (t ∷ ts) =
    if has_slash t then id_in_subscription place.subscription t ts else with_subscription t ts
