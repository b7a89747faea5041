-- What is seen at a point of a deployment: some of what is known, and nothing that an undone task gives.
use Rattle.std.specs.Prelude.{◌≡◌, ℕ, true, false, Some, slice_get}
use Rattle.reading.specs.Knowledge.{missing}
use Rattle.deploy_cells.specs.Cells.{Cell}
use Rattle.plan_cells.specs.Known.{Table}
use Rattle.plan_cells.specs.Start.{start_world}
use Rattle.plan_cells.specs.Tasks.{Task}
use Rattle.plan_cells.specs.Reads.{is_given_by}
use Rattle.history_laws.specs.Planned.{Planned}
use Rattle.history_laws.specs.Events.{Status, Progress, done_status}
use Rattle.history_laws.specs.Points.{IsKnownThen}

-- the table has nothing of the state at a key where a task puts that is not done, nor of the outputs of a scope that
-- was not left
abbrev pub Hides : Planned → (ℕ → Status) → Table → Type 0
Hides x f t =
    (v : ℕ) (task : Task) (c : Cell) → slice_get x.tasks v ≡ Some task
    → is_given_by x.deployment (start_world x.known) task c ≡ true → done_status (f v) ≡ false → t c ≡ missing

-- what is in the table is known, and nothing of it is given by a task that is not done
pub record IsSeen (x : Planned) (p : Progress) (t : Table) : Type 0 where
  pub known_then : IsKnownThen x p t
  pub hides : Hides x p.status t
