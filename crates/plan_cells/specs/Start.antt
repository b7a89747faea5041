-- What is known at the start of a deployment, and at each point of it.
use Rattle.std.specs.Prelude.{◌≡◌, ◌||◌, Bool, true, false, List, [], ◌∷◌, Option, Some, None, if◌then◌else◌}
use Rattle.std.specs.List.{list_any}
use Rattle.template_parameters.specs.Json.{Json}
use Rattle.deploy_cells.specs.Held.{HeldResource}
use Rattle.deploy_cells.specs.ResourceId.{ResourceId}
use Rattle.reading.specs.World.{value_in}
use Rattle.reading.specs.Knowledge.{Known, known, absent, missing, Told, value, no_value, waits, blanked}
use Rattle.deploy_cells.specs.Cells.{Position, Cell, offered, output, state, World}
use Rattle.deploy_cells.specs.Guarded.{Reads}
use Rattle.deploy_cells.specs.Same.{same_id}
use Rattle.plan_cells.specs.Known.{Access, outright, by_others, hidden, Moment, Table, IsTable}
use Rattle.plan_cells.specs.Meaning.{Deployment, meaning}
use Rattle.plan_cells.specs.Desired.{kinds, held_state}
use Rattle.deploy_cells.specs.Puts.{IsPutAt}

-- at the start no state is known
abbrev pub start : Moment
start (state k) = hidden
start _ = by_others

-- the table of what is known at the start
abbrev pub IsStart : Deployment → Table → Type 0
IsStart d q = IsTable (meaning d) start q

-- the world that has what is known at the start, and nothing else
abbrev pub start_world : Table → World
start_world q = blanked q

-- what is told of a reading is so in a world
abbrev pub IsSo : {A : Type 0} → World → Reads A → Told Cell A → Type 0
IsSo w r (value x) = value_in w r ≡ Some x
IsSo w r no_value = value_in w r ≡ None
IsSo w r (waits c) = Unit {0}

-- a point of a deployment: the states that were stored by then, and the scopes that were left
pub record Point : Type 0 where
  pub stored : ResourceId → Option Json
  pub is_left : Position → Bool

-- the basis of a deployment does not change from point to point: what is known at the start, the keys at which tasks
-- put, and what is held
pub record Basis : Type 0 where
  pub start : Table
  pub keys : List ResourceId
  pub held : List HeldResource

abbrev pub where_stored : Option Json → Access
where_stored None = hidden
where_stored (Some j) = outright (Some j)

abbrev pub is_there : Known Json → Bool
is_there (known v) = true
is_there absent = true
is_there missing = false

abbrev pub if_seen : Bool → Access
if_seen true = by_others
if_seen false = hidden

-- an output of a scope inside can be seen where it is known at the start, and once its scope was left
abbrev pub output_access : Basis → Point → Position → Cell → Access
output_access c p [] x = by_others
output_access c p (s ∷ q) x = if_seen (is_there (c.start x) || p.is_left (s ∷ q))

-- the state at a key at which a task puts is known once it was stored, every other is the one that is held
abbrev pub state_access : Basis → Point → ResourceId → Access
state_access c p k =
    if list_any (same_id k) c.keys then where_stored (p.stored k) else outright (held_state c.held k)

abbrev pub at_point : Basis → Point → Moment
at_point c p (state k) = state_access c p k
at_point c p (offered q x) = output_access c p q (offered q x)
at_point c p (output q x) = output_access c p q (output q x)
at_point c p _ = by_others

-- the table of what is known at a point
abbrev pub IsTableAt : Deployment → Basis → Point → Table → Type 0
IsTableAt d c p q = IsTable (meaning d) (at_point c p) q

-- at the later point all is known that was known
pub record IsLater (p q : Point) : Type 0 where
  pub stored : (k : ResourceId) (j : Json) → p.stored k ≡ Some j → q.stored k ≡ Some j
  pub left : (r : Position) → p.is_left r ≡ true → q.is_left r ≡ true

-- the keys of the basis are those at which something is put, and the states that were stored are those of the world
pub record IsOnTheWay (d : Deployment) (c : Basis) (p : Point) (w : World) : Type 0 where
  pub keys : (k : ResourceId) → IsPutAt d.place (kinds d) w k → list_any (same_id k) c.keys ≡ true
  pub stored : (k : ResourceId) (j : Json) → p.stored k ≡ Some j → w (state k) ≡ Some j
