-- The members of two objects side by side, each list in the order of its keys.
use Rattle.std.specs.Prelude.{ℕ, bytes_eq, Bool, false, List, [], ◌∷◌, ◌++◌, Option, None, if◌then◌else◌}
use Rattle.std.specs.Ordering.{is_lt}
use Rattle.arm_value.specs.Json.{Json, Member, key_cmp}
use Rattle.function_numbers.specs.Kinds.{members_of}
use Rattle.function_lists.specs.Members.{under}

-- whether there is a first member, and its key is below k
abbrev pub starts_below : List ℕ → List Member → Bool
starts_below k [] = false
starts_below k (m ∷ ms) = is_lt (key_cmp m.0 k)

-- the members at the front whose keys are below k
unfoldable pub below : List ℕ → List Member → List Member
below k [] = []
below k (m ∷ ms) = if is_lt (key_cmp m.0 k) then m ∷ below k ms else []

-- the members from the first one whose key is not below k
unfoldable pub from : List ℕ → List Member → List Member
from k [] = []
from k (m ∷ ms) = if is_lt (key_cmp m.0 k) then from k ms else m ∷ ms

-- whether there is a first member, and its key is k
abbrev pub starts_at : List ℕ → List Member → Bool
starts_at k [] = false
starts_at k (m ∷ ms) = bytes_eq k m.0

-- the members of the object that the first member has at the key k
abbrev pub object_first : List ℕ → List Member → Option (List Member)
object_first k [] = None
object_first k (m ∷ ms) = if bytes_eq k m.0 then members_of m.1 else None

-- the members without the first one, where its key is k
abbrev pub without_first : List ℕ → List Member → List Member
without_first k [] = []
without_first k (m ∷ ms) = if bytes_eq k m.0 then ms else m ∷ ms

-- the members whose keys are below k, and a member at k: the value j, united with the object that is there
abbrev pub united_to : List ℕ → Json → List Member → List Member
united_to k j ms = below k ms ++ (k, under (object_first k (from k ms)) j) ∷ []
