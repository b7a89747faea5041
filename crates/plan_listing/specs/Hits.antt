-- What is sought in the value that lists nested deployments, as the code has it.
use Rattle.std.specs.Prelude.{◌≡◌, ℕ, ◌&&◌, Bool, true, false, List, [], Option, Some, None, chars}
use Rattle.arm_value.specs.Look.{is_same_folded}
use Rattle.arm_ids.specs.Members.{is_deployment_type}
use Rattle.arm_ids.specs.Segments.{joined}
use Rattle.arm_value.specs.Json.{Json, bool, text}
use Rattle.arm_ids.specs.declared.id.Place.{Place}
use Rattle.arm_ids.specs.declared.id.ResourceId.{ResourceId}
use Rattle.deploy_cells.specs.Listing as listing
use Rattle.deploy_cells.specs.Listing.{Named, found, left_away, not_here, first_included, has_name, sought_by}
use Rattle.deploy_cells.specs.Same.{same_id}
use Rattle.plan_cells.specs.Sites.{deployment_key}
use Rattle.plan_listing.specs.declared.listing.Entry.{Entry}
use Rattle.plan_listing.specs.declared.listing.Hit.{Hit}
use Rattle.plan_listing.specs.declared.listing.Hit.TheVariants as hit
use Rattle.plan_listing.specs.declared.listing.Sought.{Sought}
use Rattle.plan_listing.specs.declared.listing.Sought.TheVariants as seeks

-- whether the key is that of a nested deployment of a name in a place
abbrev pub is_at : ResourceId → Place → List ℕ → Bool
is_at k place n = same_id k (deployment_key place n)

-- whether the key is one of the group of a place, and of the type of nested deployments
abbrev pub fits : ResourceId → Place → Bool
fits k place =
    is_same_folded place.subscription k.subscription
    && (is_same_folded place.group k.group && is_deployment_type (joined k.types))

-- whether the name is the one that is wanted
abbrev pub is_wanted : Option (List ℕ) → List ℕ → Bool
is_wanted None n = false
is_wanted (Some w) n = is_same_folded n w

abbrev pub entry_of : Entry → Named
entry_of e = record { name = chars e.name.now; included = e.included }

-- the name and the truth value of an item with two parts
abbrev pub named_by_parts : Json → Json → Named
named_by_parts (text n) (bool b) = record { name = n; included = b }
named_by_parts _ _ = record { name = []; included = false }

-- what the first index with a test is, and whether any has it
abbrev pub IsHit : Hit → Option ℕ → Bool → Type 0
IsHit (hit.At i) o b = o ≡ Some i
IsHit hit.LeftAway o b = (o ≡ None) × (b ≡ true)
IsHit hit.NotHere o b = (o ≡ None) × (b ≡ false)

-- the index that was found
abbrev pub index_in : Hit → Option ℕ
index_in (hit.At i) = Some i
index_in hit.LeftAway = None
index_in hit.NotHere = None

-- whether there are only instances that their conditions leave away
abbrev pub is_left : Hit → Bool
is_left (hit.At i) = false
is_left hit.LeftAway = true
is_left hit.NotHere = false

abbrev pub sought_of : Sought → listing.Sought
sought_of (seeks.Found k i) = found k i
sought_of seeks.LeftAway = left_away
sought_of seeks.NotHere = not_here

-- what is sought by a test of names among these
abbrev pub IsSoughtIn : (List ℕ → Bool) → List (List Named) → Sought → Type 0
IsSoughtIn test nss s = sought_of s ≡ sought_by (first_included test nss) (has_name test nss)
