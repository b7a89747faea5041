-- The resources that a store holds: at most one of each key.
use Rattle.std.specs.Prelude.{◌≡◌, ℕ, ◌<◌, ◌≤◌, List, [], ◌∷◌, map, length, take, drop, slice_index_or, bytes_eq}
use Rattle.std.specs.Prelude.{encode_utf8_all, Option, Some, None, Result, Ok, Err, if◌then◌else◌, refl}
use Rattle.std.specs.declared.cmp.Ordering.{Ordering}
use Rattle.std.specs.declared.cmp.Ordering.TheVariants.{Less}
use Rattle.std.specs.Ordering.{nat_cmp, match_ordering}
use Rattle.std.specs.Cmp.Lexicographic.{slice_cmp}
use Rattle.std.specs.List.{AllByRecursion}
use Rattle.std.specs.List.Sorted.{IsStrictlySortedBy}
use Rattle.std.specs.Coded.{Coded, code_by, coded×, coded_ℕ, coded_list}
use Rattle.arm_value.specs.Json.{Json}
use Rattle.arm_value.specs.JsonCode.{json_code}
use Rattle.arm_value.specs.Look.{fold}
use Rattle.arm_ids.specs.Id.{HasKey}
use Rattle.arm_ids.specs.declared.fault.PutFault.{PutFault}
use Rattle.arm_ids.specs.declared.fault.PutFault.TheVariants.{NotAnId, OutOfMemory}

-- a resource as a store holds it
pub record HeldResource : Type 0 where
  pub id : List ℕ
  pub api : List ℕ
  pub body : Json
  pub state : Json

-- resources are stored as their parts
abbrev pub held_code : Coded (List HeldResource)
held_code =
    coded_list
    (code_by (List ℕ × (List ℕ × (Json × Json)))
    (coded× (coded_list coded_ℕ) (coded× (coded_list coded_ℕ) (coded× json_code json_code)))
    (λ r. (r.id, (r.api, (r.body, r.state))))
    (λ p. record { id = p.0; api = p.1.0; body = p.1.1.0; state = p.1.1.1 }) (λ _. refl))

-- the id by which a resource is held: its own, in small ASCII letters
abbrev pub held_by : HeldResource → List ℕ
held_by r = fold r.id

-- the resource of this id
abbrev pub find : List ℕ → List HeldResource → Option HeldResource
find id [] = None
find id (r ∷ rs) = if bytes_eq id (held_by r) then Some r else find id rs

-- the order of ids: that of their bytes
unfoldable pub id_cmp : List ℕ → List ℕ → Ordering
id_cmp a b = slice_cmp nat_cmp (encode_utf8_all a) (encode_utf8_all b)

-- each id is below those after it
abbrev pub IsInOrder : List HeldResource → Type 0
IsInOrder rs = IsStrictlySortedBy id_cmp (map held_by rs)

-- the id of each is the id of a key
abbrev pub HaveKeys : List HeldResource → Type 0
HaveKeys rs = AllByRecursion (λ r. HasKey r.id) rs

-- the fault of a resource of this id that was to be put
abbrev pub RefusesPut : List ℕ → PutFault → Type 0
RefusesPut id NotAnId = HasKey id → ⊥
RefusesPut id OutOfMemory = Unit {0}

-- the resources with r in the place of its id
abbrev pub put : HeldResource → List HeldResource → List HeldResource
put r [] = r ∷ []
put r (s ∷ ss) = match_ordering (id_cmp (held_by r) (held_by s)) (r ∷ s ∷ ss) (r ∷ ss) (s ∷ put r ss)

-- the resources without the one of this id
abbrev pub without : List ℕ → List HeldResource → List HeldResource
without id [] = []
without id (r ∷ rs) = if bytes_eq id (held_by r) then rs else r ∷ without id rs

-- these ids are below this one
abbrev pub AllBelow : List ℕ → List (List ℕ) → Type 0
AllBelow id ids = AllByRecursion (λ other. id_cmp other id ≡ Less) ids

-- these ids are above this one
abbrev pub AllAbove : List ℕ → List (List ℕ) → Type 0
AllAbove id ids = AllByRecursion (λ other. id_cmp id other ≡ Less) ids

-- the place of the id among ids in order, or the place where it belongs
abbrev pub IsPlaceOf : List ℕ → List (List ℕ) → Result ℕ ℕ → Type 0
IsPlaceOf id ids (Ok i) = (i < length ids) × (slice_index_or ids i id ≡ id)
IsPlaceOf id ids (Err i) = (i ≤ length ids) × AllBelow id (take i ids) × AllAbove id (drop i ids)
