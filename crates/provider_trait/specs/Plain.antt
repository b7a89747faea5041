-- The plain state of a put: the state of a stored resource, where nothing else is known of its type.
use Rattle.std.specs.Prelude.{ℕ, List, [], ◌++◌, Bool, true, false, bytes_eq, Option, Some, None, codes}
use Rattle.arm_value.specs.Json.{Json, text, object, pairs, members, Member, put}
use Rattle.arm_value.specs.Look.{fold, look}
use Rattle.arm_ids.specs.Segments.{joined}
use Rattle.arm_ids.specs.Id.{reading}
use Rattle.arm_ids.specs.declared.id.ResourceId.{ResourceId}

-- the object of these members
abbrev pub object_of : List Member → Json
object_of ms = object (pairs ms)

-- the members of an object, and none of anything else
abbrev pub members_of : Json → List Member
members_of (object ms) = members ms
members_of _ = []

-- the members of what was found, and none where nothing was
abbrev pub members_found : Option Json → List Member
members_found None = []
members_found (Some j) = members_of j

-- the type segments of an id as one text, empty where there is no id
abbrev pub types_joined : Option ResourceId → List ℕ
types_joined None = []
types_joined (Some i) = joined i.types

-- the name segments of an id as one text, empty where there is no id
abbrev pub names_joined : Option ResourceId → List ℕ
names_joined None = []
names_joined (Some i) = joined i.names

-- the full type that an id spells, empty where the text is no id
abbrev pub full_type : List ℕ → List ℕ
full_type id = types_joined (reading id)

-- the full name that an id spells, empty where the text is no id
abbrev pub full_name : List ℕ → List ℕ
full_name id = names_joined (reading id)

-- whether the type is that of storage accounts
abbrev pub is_storage : List ℕ → Bool
is_storage kind = bytes_eq (fold kind) (codes "microsoft.storage/storageaccounts")

-- the address of one of a storage account's services (blob, file, queue, table)
unfoldable pub endpoint : List ℕ → List ℕ → List ℕ
endpoint name service = codes "https://" ++ (name ++ (codes "." ++ (service ++ codes ".core.windows.net/")))

-- its four endpoints
unfoldable pub endpoints : List ℕ → List Member
endpoints name =
    put (codes "table") (text (endpoint name (codes "table")))
    (put (codes "queue") (text (endpoint name (codes "queue")))
    (put (codes "file") (text (endpoint name (codes "file")))
    (put (codes "blob") (text (endpoint name (codes "blob"))) [])))

-- the members, for a storage account with its endpoints
abbrev pub with_endpoints : Bool → List ℕ → List Member → List Member
with_endpoints true name ms = put (codes "primaryEndpoints") (object_of (endpoints name)) ms
with_endpoints false name ms = ms

-- the body's properties with `provisioningState` `Succeeded`, and for a storage account with its endpoints
unfoldable pub stored_properties : List ℕ → List ℕ → Json → List Member
stored_properties kind name body =
    with_endpoints (is_storage kind) name
    (put (codes "provisioningState") (text (codes "Succeeded")) (members_found (look (codes "properties") body)))

-- the state of a resource of this type and name
unfoldable pub state_named : List ℕ → List ℕ → List ℕ → List ℕ → Json → Json
state_named kind name id api body =
    object_of
    (put (codes "properties") (object_of (stored_properties kind name body))
    (put (codes "type") (text kind)
    (put (codes "name") (text name)
    (put (codes "apiVersion") (text api) (put (codes "id") (text id) (members_of body))))))

-- the plain state of a put
abbrev pub plain_state : List ℕ → List ℕ → Json → Json
plain_state id api body = state_named (full_type id) (full_name id) id api body
