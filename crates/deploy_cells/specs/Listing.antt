-- The nested deployments of a scope by their names: the value of one cell, in which each can be sought.
use Rattle.std.specs.Prelude.{◌≡◌, ℕ, zero, suc, ◌&&◌, ◌||◌, Bool, true, false, List, [], ◌∷◌, map, Option, Some, None}
use Rattle.std.specs.Prelude.{slice_get, option_map, if◌then◌else◌}
use Rattle.std.specs.List.{list_any}
use Rattle.arm_value.specs.Json.{Json, bool, text, array, row, items, no_items, item}
use Rattle.reading.specs.Reading.{done, pure, read, continued}
use Rattle.deploy_cells.specs.Cells.{Step, step, Position, count, included, name, copies}
use Rattle.deploy_cells.specs.Guarded.{Reads}

-- an instance of a nested deployment: its name, and whether it is included
pub record Named : Type 0 where
  pub name : List ℕ
  pub included : Bool

-- the name and the truth value as an array
abbrev pub named_json : Named → Json
named_json n = array (row (text n.name ∷ bool n.included ∷ []))

abbrev pub instances_json : List Named → Json
instances_json ns = array (row (map named_json ns))

-- for each nested deployment the array of its instances
abbrev pub listing_json : List (List Named) → Json
listing_json nss = array (row (map instances_json nss))

abbrev pub items_of : Json → List Json
items_of (array js) = items js
items_of _ = []

abbrev pub named_of : Json → Named
named_of (array (item (text n) (item (bool b) no_items))) = record { name = n; included = b }
named_of _ = record { name = []; included = false }

abbrev pub instances_of : Json → List Named
instances_of j = map named_of (items_of j)

-- the instances that such a value lists
abbrev pub listing_of : Json → List (List Named)
listing_of j = map instances_of (items_of j)

abbrev pub named_by : Json → Json → Option Named
named_by (text n) (bool b) = Some (record { name = n; included = b })
named_by _ _ = None

-- the name of an instance, and whether it is included
abbrev pub one_named : Position → Step → Reads Named
one_named p s = continued (read (name p s)) (λ n. continued (read (included p s)) (λ b. done (named_by n b)))

-- of n instances from index i on
abbrev pub instances_named : Position → ℕ → ℕ → ℕ → Reads (List Named)
instances_named p r i zero = pure []
instances_named p r i (suc n) =
    continued (one_named p (step r i)) (λ x. continued (instances_named p r (suc i) n) (λ xs. pure (x ∷ xs)))

-- of all instances of a resource
abbrev pub resource_named : Position → ℕ → Reads (List Named)
resource_named p r = continued (read (count p r)) (λ v. instances_named p r 0 (copies (Some v)))

abbrev pub all_named : Position → List ℕ → Reads (List (List Named))
all_named p [] = pure []
all_named p (r ∷ rs) = continued (resource_named p r) (λ x. continued (all_named p rs) (λ xs. pure (x ∷ xs)))

-- what the cell `deployments` of a scope is, where these resources of it are nested deployments
unfoldable pub listing_value : Position → List ℕ → Reads Json
listing_value p rs = continued (all_named p rs) (λ xs. pure (listing_json xs))

-- what is sought among the nested deployments of a scope: which of them has it, and at which index; or it is one
-- that its condition leaves away, or none
pub data Sought : Type 0 where
  found : ℕ → ℕ → Sought
  left_away : Sought
  not_here : Sought

-- the index of the first included instance with a name that passes the test
abbrev pub first_index : (List ℕ → Bool) → List Named → Option ℕ
first_index test [] = None
first_index test (n ∷ ns) =
    if n.included && test n.name then Some 0 else option_map (λ i. suc i) (first_index test ns)

-- an index of the first nested deployment, or else one of the others
abbrev pub here_or : Option ℕ → Option (ℕ × ℕ) → Option (ℕ × ℕ)
here_or (Some i) o = Some (0, i)
here_or None o = option_map (λ q. (suc q.0, q.1)) o

abbrev pub first_included : (List ℕ → Bool) → List (List Named) → Option (ℕ × ℕ)
first_included test [] = None
first_included test (ns ∷ nss) = here_or (first_index test ns) (first_included test nss)

-- whether an instance has a name that passes the test
abbrev pub has_name : (List ℕ → Bool) → List (List Named) → Bool
has_name test [] = false
has_name test (ns ∷ nss) = list_any (λ n. test n.name) ns || has_name test nss

abbrev pub sought_by : Option (ℕ × ℕ) → Bool → Sought
sought_by (Some q) b = found q.0 q.1
sought_by None true = left_away
sought_by None false = not_here

-- by a test of names: the first included instance, or else one that is left away
unfoldable pub sought : (List ℕ → Bool) → Json → Sought
sought test j = sought_by (first_included test (listing_of j)) (has_name test (listing_of j))

-- an instance is listed: which of the nested deployments has it, and at which index
pub record IsListed (nss : List (List Named)) (k i : ℕ) (n : Named) : Type 0 where
  pub of : List Named
  pub has : slice_get nss k ≡ Some of
  pub is : slice_get of i ≡ Some n

-- no instance that is listed has a name that passes the test and is included
abbrev pub NoneIncluded : (List ℕ → Bool) → List (List Named) → Type 0
NoneIncluded test nss = (k i : ℕ) (n : Named) → IsListed nss k i n → test n.name ≡ true → n.included ≡ false

-- what was sought is true of what is listed
abbrev pub IsSought : (List ℕ → Bool) → List (List Named) → Sought → Type 0
IsSought test nss (found k i) =
    (n : Named) × (IsListed nss k i n × (n.included ≡ true) × (test n.name ≡ true))
IsSought test nss left_away =
    NoneIncluded test nss × ((k : ℕ) × ((i : ℕ) × ((n : Named) × (IsListed nss k i n × (test n.name ≡ true)))))
IsSought test nss not_here = (k i : ℕ) (n : Named) → IsListed nss k i n → test n.name ≡ false
