-- Where the nested deployment at a key was found.
use Rattle.std.specs.Prelude.{◌≡◌, ℕ, ◌<◌, Bool, List, [], ◌∷◌, length, Option, Some, None, Result, Ok, Err}
use Rattle.std.specs.Prelude.{slice_get, true}
use Rattle.arm_value.specs.Json.{Json, bool}
use Rattle.reading.specs.Knowledge.{known, Told, value}
use Rattle.reading.specs.Reading.{pure, read, continued}
use Rattle.deploy_cells.specs.Cells.{Step, step, Position, Cell, count, included, deployments, copies}
use Rattle.deploy_cells.specs.Listing.{Sought, not_here, sought}
use Rattle.deploy_cells.specs.Guarded.{Reads}
use Rattle.plan_sight.specs.Resources.{Nested, nested_at}
use Rattle.plan_sight.specs.Sites as sites
use Rattle.plan_sight.specs.Sites.{instance, is_left_away, is_nowhere, found_or, nested_numbers_at}
use Rattle.plan_table.specs.Rows.{status_of, table}
use Rattle.plan_table.specs.declared.table.Table.{Table}
use Rattle.plan_table.specs.Whole.{whole_of, scopes_of, rows_in}
use Rattle.plan_table.specs.Found.{scope_at}
use Rattle.plan_sight.specs.declared.lack.Lack.{Lack}
use Rattle.plan_sight.specs.Ready.{told_in}
use Rattle.plan_sight.specs.Seen.{Stops}
use Rattle.plan_nested.specs.declared.seeking.Sighting.{Sighting}
use Rattle.plan_nested.specs.declared.seeking.Sighting.TheVariants as sighting

-- the instance whose scope is at a position
abbrev pub instance_at : Position → sites.Found
instance_at [] = is_nowhere
instance_at (s ∷ q) = instance q s

abbrev pub found_of : Table → Sighting → sites.Found
found_of t (sighting.Scope g) = instance_at (scope_at t g).position
found_of t sighting.LeftAway = is_left_away
found_of t sighting.Nowhere = is_nowhere

-- the number is that of a scope inside
pub record IsInside (t : Table) (g : ℕ) : Type 0 where
  pub there : g < length (scopes_of t)
  pub step : Step
  pub around : Position
  pub position : (scope_at t g).position ≡ step ∷ around

abbrev pub IsThere : Table → Sighting → Type 0
IsThere t (sighting.Scope g) = IsInside t g
IsThere t sighting.LeftAway = Unit {0}
IsThere t sighting.Nowhere = Unit {0}

-- what is found in a scope, or else what the rest of the reading finds
abbrev pub HereOr : Table → Result (Option Sighting) Lack → Reads sites.Found → Told Cell sites.Found → Type 0
HereOr t (Ok (Some s)) rest u = u ≡ value (found_of t s)
HereOr t (Ok None) rest u = u ≡ told_in t rest
HereOr t (Err e) rest u = Stops t e u

-- what was sought in the listing of a scope: what is found there, or nothing where it is not here
abbrev pub FindsIn : Table → ℕ → Sought → Option Sighting → Type 0
FindsIn t f s None = s ≡ not_here
FindsIn t f s (Some x) = IsThere t x × ((rest : Reads sites.Found) → found_or (scope_at t f).position
    (nested_numbers_at (whole_of t).template (scope_at t f).position) s rest ≡ pure (found_of t x))

-- what is sought by a test of names in a scope, and then in those around it
abbrev pub here_first : Table → ℕ → (List ℕ → Bool) → Reads sites.Found → Reads sites.Found
here_first t f test rest = continued (read (deployments (scope_at t f).position)) (λ j. found_or
    (scope_at t f).position (nested_numbers_at (whole_of t).template (scope_at t f).position) (sought test j) rest)

-- an instance of a nested deployment of a scope is included, as is known
pub record IsIncluded (t : Table) (f r i : ℕ) : Type 0 where
  pub number : Json
  pub counted : table (status_of (rows_in t)) (count (scope_at t f).position r) ≡ known number
  pub copy : i < copies (Some number)
  pub is_true : table (status_of (rows_in t)) (included (scope_at t f).position (step r i)) ≡ known (bool true)
  pub nested : Nested
  pub is_nested : nested_at (scope_at t f).template r ≡ Some nested

-- the instance at an index of the nested deployment at a place among those of a scope is included, as is known
pub record IsFound (t : Table) (f k i : ℕ) : Type 0 where
  pub number : ℕ
  pub has : slice_get (nested_numbers_at (whole_of t).template (scope_at t f).position) k ≡ Some number
  pub included : IsIncluded t f number i

-- the number is that of the scope of such an instance
pub record Leads (t : Table) (f k i g : ℕ) : Type 0 where
  pub inside : IsInside t g
  pub is : sites.instance_of (scope_at t f).position
      (slice_get (nested_numbers_at (whole_of t).template (scope_at t f).position) k) i
      ≡ found_of t (sighting.Scope g)
