-- The objects that describe where a template is deployed (Microsoft Learn, "Template functions",
-- scope and deployment).
use Rattle.std.specs.Prelude.{ℕ, List, [], ◌∷◌, codes}
use Rattle.arm_value.specs.Json.{Json, text, object, pairs, Member, put_each}
use Rattle.arm_ids.specs.Segments.{slashed}
use Rattle.arm_ids.specs.declared.id.Place.{Place}

-- the object of these members
abbrev pub object_of : List Member → Json
object_of ms = object (pairs (put_each [] ms))

abbrev pub subscription : Place → Json
subscription place =
    object_of ((codes "id", text (slashed (codes "subscriptions" ∷ place.subscription ∷ [])))
    ∷ (codes "subscriptionId", text place.subscription) ∷ [])

abbrev pub group_id : Place → List ℕ
group_id place =
    slashed (codes "subscriptions" ∷ place.subscription ∷ codes "resourceGroups" ∷ place.group ∷ [])

abbrev pub group_properties : Json
group_properties = object_of ((codes "provisioningState", text (codes "Succeeded")) ∷ [])

-- the members that are the same for all groups
abbrev pub group_members : List Member
group_members =
    (codes "properties", group_properties)
    ∷ (codes "tags", object_of [])
    ∷ (codes "type", text (codes "Microsoft.Resources/resourceGroups")) ∷ []

abbrev pub resource_group : Place → Json
resource_group place =
    object_of ((codes "id", text (group_id place)) ∷ (codes "location", text place.location)
    ∷ (codes "name", text place.group) ∷ group_members)

abbrev pub deployment : Place → Json
deployment place = object_of ((codes "name", text place.deployment) ∷ [])
