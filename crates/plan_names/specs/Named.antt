-- Which resources a text names, and what is gathered of their keys.
use Rattle.std.specs.Prelude.{◌≡◌, ℕ, ◌||◌, ◌<◌, Bool, List, [], ◌∷◌, ◌++◌, Option, Some, None, Result, Ok, Err}
use Rattle.std.specs.Prelude.{true, ◌&&◌, if◌then◌else◌}
use Rattle.arm_value.specs.Json.{Json}
use Rattle.arm_value.specs.Look.{is_same_folded}
use Rattle.arm_ids.specs.declared.id.Place.{Place}
use Rattle.arm_ids.specs.declared.id.ResourceId.{ResourceId}
use Rattle.arm_env.specs.declared.env.Spelled.{Spelled}
use Rattle.arm_env.specs.Find.{names_resource, is_same_key}
use Rattle.reading.specs.Reading.{done, read, continued}
use Rattle.reading.specs.Knowledge.{known, Told, value, and_then}
use Rattle.deploy_cells.specs.Cells.{step, Position, Cell, name, count, deployments, copies}
use Rattle.deploy_cells.specs.Guarded.{Reads}
use Rattle.plan_sight.specs.Sites.{spelled_by, named_or, first_name, concat, deployment_key}
use Rattle.deploy_cells.specs.Listing.{listing_of}
use Rattle.plan_table.specs.Rows.{status_of, table}
use Rattle.plan_table.specs.declared.table.Table.{Table}
use Rattle.plan_table.specs.Whole.{rows_in}
use Rattle.plan_table.specs.Found.{scope_at}
use Rattle.plan_sight.specs.declared.lack.Lack.{Lack}
use Rattle.plan_sight.specs.declared.lack.Lack.TheVariants as lack
use Rattle.plan_sight.specs.Ready.{told_in}
use Rattle.plan_sight.specs.Seen.{Stops}

-- whether the text is the name, or the type and the name with a slash between
abbrev pub is_spelled : List ℕ → List ℕ → List ℕ → Bool
is_spelled x kind n = is_same_folded n x || is_same_folded (kind ++ 47 ∷ n) x

-- the keys of those that the text names
abbrev pub keys_named : List ℕ → List Spelled → List ResourceId
keys_named x [] = []
keys_named x (s ∷ ss) = if names_resource x s then s.key ∷ keys_named x ss else keys_named x ss

-- these keys, and those of the resources that are read and that the text names
abbrev pub gathered : List ℕ → List ResourceId → Told Cell (List Spelled) → Told Cell (List ResourceId)
gathered x got u = and_then u (λ ss. value (got ++ keys_named x ss))

-- the keys that were gathered, unless it stops
abbrev pub Gathers : Table → List ℕ → List ResourceId → List ResourceId → Result (Unit {0}) Lack
    → Told Cell (List Spelled) → Type 0
Gathers t x old new (Ok u) r = gathered x old r ≡ value new
Gathers t x old new (Err e) r = Stops t e (gathered x old r)

-- the name of an instance, as it is spelled
abbrev pub one_spelled : Place → Position → ℕ → List ℕ → ℕ → Reads Spelled
one_spelled place p r kind i = continued (read (name p (step r i))) (λ j. done (spelled_by place kind j))

-- the same, where one is read
abbrev pub GathersOne : Table → List ℕ → List ResourceId → List ResourceId → Result (Unit {0}) Lack
    → Told Cell Spelled → Type 0
GathersOne t x old new (Ok u) r = (s : Spelled) × ((r ≡ value s) × (new ≡ old ++ keys_named x (s ∷ [])))
GathersOne t x old new (Err e) r = Stops t e r

-- the key of a name that is spelled, where the text names it, and why there is none
abbrev pub Pushes : List ℕ → Option Spelled → List ResourceId → List ResourceId → Result (Unit {0}) Lack → Type 0
Pushes x o old new (Ok u) = (s : Spelled) × ((o ≡ Some s) × (new ≡ old ++ keys_named x (s ∷ [])))
Pushes x o old new (Err lack.NotThere) = ⊥
Pushes x o old new (Err lack.NoValue) = o ≡ None
Pushes x o old new (Err (lack.Line j)) = ⊥
Pushes x o old new (Err (lack.State k)) = ⊥
Pushes x o old new (Err lack.OutOfMemory) = Unit {0}

-- the count of a resource is known, and this is an index below it
pub record IsCopy (t : Table) (f r i : ℕ) : Type 0 where
  pub number : Json
  pub counted : table (status_of (rows_in t)) (count (scope_at t f).position r) ≡ known number
  pub copy : i < copies (Some number)

-- the count of a resource is known, and is this number
pub record HasCount (t : Table) (f r n : ℕ) : Type 0 where
  pub number : Json
  pub counted : table (status_of (rows_in t)) (count (scope_at t f).position r) ≡ known number
  pub is : n ≡ copies (Some number)

-- the name of the first nested deployment of a scope that passes a test, or else what the rest of the reading finds
abbrev pub name_first : Table → ℕ → (List ℕ → Bool) → Reads (Option (List ℕ)) → Reads (Option (List ℕ))
name_first t f test rest = continued (read (deployments (scope_at t f).position))
    (λ j. named_or (first_name test (concat (listing_of j))) rest)

-- its key, or what the rest of the reading finds
abbrev pub NamedOr : Table → Place → Result (Option ResourceId) Lack → Reads (Option (List ℕ))
    → Told Cell (Option (List ℕ)) → Type 0
NamedOr t place (Ok (Some k)) rest u =
    (n : List ℕ) × ((u ≡ value (Some n)) × (k ≡ deployment_key place n))
NamedOr t place (Ok None) rest u = u ≡ told_in t rest
NamedOr t place (Err e) rest u = Stops t e u

-- whether all of these are one key
abbrev pub are_one : ResourceId → List ResourceId → Bool
are_one k [] = true
are_one k (l ∷ ls) = is_same_key k l && are_one k ls

-- the key that all of these are
abbrev pub the_one : List ResourceId → Option ResourceId
the_one [] = None
the_one (k ∷ ks) = if are_one k (k ∷ ks) then Some k else None
