-- What is known of a deployment once its tasks are so far.
use Rattle.std.specs.Prelude.{◌≡◌, ℕ, Bool, false, Option, Some, None, option_and_then}
use Rattle.arm_value.specs.Json.{Json}
use Rattle.deploy_cells.specs.Cells.{Cell}
use Rattle.plan_cells.specs.Known.{Table, IsKnown, entry_of}
use Rattle.plan_cells.specs.Meaning.{meaning}
use Rattle.plan_cells.specs.Start.{Point, at_point, IsTableAt}
use Rattle.deploy_histories.specs.Planned.{Planned, putter, leaver, basis}
use Rattle.deploy_histories.specs.Events.{Status, Progress, done_status, state_in}

abbrev pub is_done_at : (ℕ → Status) → Option ℕ → Bool
is_done_at f None = false
is_done_at f (Some u) = done_status (f u)

-- the states that were stored, and the scopes that were left
abbrev pub point : Planned → (ℕ → Status) → Point
point x f = record {
  stored = λ k. option_and_then (λ u. state_in (f u)) (putter x k);
  is_left = λ p. is_done_at f (leaver x p);
}

-- what is in the table is known, and there may be more
abbrev pub IsKnownThen : Planned → Progress → Table → Type 0
IsKnownThen x p t = (c : Cell) (o : Option Json) → t c ≡ entry_of o
    → IsKnown (meaning x.deployment) (at_point (basis x) (point x p.status)) c o

-- the table of all that is known
abbrev pub IsTableOf : Planned → Progress → Table → Type 0
IsTableOf x p t = IsTableAt x.deployment (basis x) (point x p.status) t
