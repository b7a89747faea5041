-- How a task stands that waits and whose needs at the start are done: by what is known at a point of a deployment.
use Rattle.std.specs.Prelude.{◌≡◌, ◌⊎◌, ℕ, List, true, false, Option, Some, None, option_and_then, slice_get}
use Rattle.arm_value.specs.Json.{Json}
use Rattle.arm_value.specs.View.{json}
use Rattle.provider_trait.specs.Act.{FitsAct}
use Rattle.provider_trait.specs.declared.act.Act.TheVariants as act
use Rattle.reading.specs.Knowledge.{Told, value, no_value, waits, told, IsThere}
use Rattle.template_tree.specs.Tree.{TemplateTree}
use Rattle.deploy_cells.specs.Cells.{Position, Cell, offered, output}
use Rattle.board_history.specs.Known.{Table, IsKnown}
use Rattle.board_history.specs.Meaning.{meaning}
use Rattle.board_history.specs.Scopes.{template_at, owner}
use Rattle.board_history.specs.Tasks.{Task, enter, leave, put, delete}
use Rattle.board_history.specs.Children.{Has, output_names}
use Rattle.board_history.specs.Start.{start_world, at_point}
use Rattle.board_history.specs.Reads.{is_given_by, entry_cells}
use Rattle.board_history.specs.Planned.{Planned, basis}
use Rattle.board_history.specs.Events.{Progress, done_status, IsDone}
use Rattle.board_history.specs.Points.{IsKnownThen, point}
use Rattle.board_history.specs.Values.{TaskValue, task_values}
use Rattle.board_history.specs.Readiness.{ready, readiness, needs_first}
use Rattle.history_replays.specs.Past.{StaysDone}
use Rattle.task_standings.specs.declared.standing.Kind.{Kind}
use Rattle.task_standings.specs.declared.standing.Kind.TheVariants.{Enter, Put, Delete, Leave}
use Rattle.task_standings.specs.declared.standing.Standing.{Standing}
use Rattle.task_standings.specs.declared.standing.Standing.TheVariants.{Ready, Waits, Stuck}

-- by what is known, a value of the first task waits for a cell that the second gives
pub record WaitsFor (x : Planned) (t : Table) (task giver : Task) : Type 0 where
  pub awaiting : TaskValue
  pub is_value : Has awaiting (task_values x.deployment task)
  pub cell : Cell
  pub is_awaited : told t awaiting.reading ≡ waits cell
  pub is_given : is_given_by x.deployment (start_world x.known) giver cell ≡ true

-- the cell is known at no point at which each task is done that is done now
abbrev pub IsNeverKnown : Planned → Progress → Cell → Type 0
IsNeverKnown x p c =
    (q : Progress) (o : Option Json) → StaysDone p.status q.status
    → IsKnown (meaning x.deployment) (at_point (basis x) (point x q.status)) c o → ⊥

-- it is no value, and waits for nothing that will be known
abbrev pub IsNone : {A : Type 0} → Planned → Progress → Told Cell A → Type 0
IsNone x p (value a) = ⊥
IsNone x p no_value = Unit {0}
IsNone x p (waits c) = IsNeverKnown x p c

-- at a point, by what is known, a value of the task is none
pub record LacksValue (x : Planned) (p : Progress) (t : Table) (task : Task) : Type 0 where
  pub lacking : TaskValue
  pub is_value : Has lacking (task_values x.deployment task)
  pub is_none : IsNone x p (told t lacking.reading)

-- at a point the first task waits for the second by some of what is known
pub record IsHeldBy (x : Planned) (p : Progress) (task giver : Task) : Type 0 where
  pub known : Table
  pub is_known : IsKnownThen x p known
  pub waits_for : WaitsFor x known task giver

-- the first task needs the second at the start, or it waits for it
abbrev pub Needs : Planned → Progress → Task → Task → Type 0
Needs x p task giver = (needs_first x task giver ≡ true) ⊎ IsHeldBy x p task giver

-- at a point a value of the task is none by some of what is known
pub record IsStuck (x : Planned) (p : Progress) (task : Task) : Type 0 where
  pub known : Table
  pub is_known : IsKnownThen x p known
  pub lacks : LacksValue x p known task

-- the body of a put is an object that nests at most 100
abbrev pub FitsTask : Task → Json → Type 0
FitsTask (put p s) body = FitsAct act.Put body
FitsTask _ body = Unit {0}

-- what is said of a task with a number, by what is known: it is ready with a body; it waits for a task that is not
-- done; or a value of it is none
abbrev pub StandsAs : Planned → Progress → Table → ℕ → Task → Standing → Type 0
StandsAs x p t u task (Ready body) = (readiness x t p.status u task ≡ ready (json body)) × FitsTask task (json body)
StandsAs x p t u task (Waits v) =
    (done_status (p.status v) ≡ false)
    × ((giver : Task) × ((slice_get x.tasks v ≡ Some giver) × WaitsFor x t task giver))
StandsAs x p t u task Stuck = LacksValue x p t task

-- the same of the task of the number
pub record IsStanding (x : Planned) (p : Progress) (t : Table) (u : ℕ) (s : Standing) : Type 0 where
  pub task : Task
  pub is_task : slice_get x.tasks u ≡ Some task
  pub stands_as : StandsAs x p t u task s

-- each task that is needed at the start is done
abbrev pub AreStartNeedsDone : Planned → Progress → ℕ → Type 0
AreStartNeedsDone x p u =
    (task : Task) (v : ℕ) (other : Task) → slice_get x.tasks u ≡ Some task → slice_get x.tasks v ≡ Some other
    → needs_first x task other ≡ true → IsDone p v

-- what a task does
abbrev pub kind_of : Task → Kind
kind_of (enter p) = Enter
kind_of (put p s) = Put
kind_of (delete k) = Delete
kind_of (leave p) = Leave

-- the scope that a task enters or leaves
abbrev pub scope_of : Task → Option Position
scope_of (enter p) = Some p
scope_of (leave p) = Some p
scope_of (put p s) = None
scope_of (delete k) = None

-- the same of the task of the number
abbrev pub scope_at : Planned → ℕ → Option Position
scope_at x u = option_and_then scope_of (slice_get x.tasks u)

-- the task leaves a scope, and is ready
abbrev pub Leaves : Planned → ℕ → Standing → Type 0
Leaves x u (Ready body) = (p : Position) × (slice_get x.tasks u ≡ Some (leave p))
Leaves x u (Waits v) = ⊥
Leaves x u Stuck = ⊥

-- the task enters a scope, and is ready
abbrev pub Enters : Planned → ℕ → Standing → Type 0
Enters x u (Ready body) = (p : Position) × (slice_get x.tasks u ≡ Some (enter p))
Enters x u (Waits v) = ⊥
Enters x u Stuck = ⊥

-- the table has what expressions of the scope see that the task enters: its parameters and variables, or for an outer
-- scope those of the scope around; and the outputs of the scope that the task leaves
pub record IsScopeSeen (x : Planned) (t : Table) (u : ℕ) : Type 0 where
  pub entered : (q : Position) → slice_get x.tasks u ≡ Some (enter q) → (c : Cell)
      → Has c (entry_cells x.deployment (owner x.deployment.template q)) → IsThere (t c)
  pub left : (q : Position) (n : List ℕ) (r : TemplateTree) → slice_get x.tasks u ≡ Some (leave q)
      → template_at x.deployment.template q ≡ Some r → Has n (output_names r)
      → IsThere (t (offered q n)) × IsThere (t (output q n))

-- the table has that of each scope that was entered or left
abbrev pub AreScopesSeen : Planned → Progress → Table → Type 0
AreScopesSeen x p t = (u : ℕ) → IsDone p u → IsScopeSeen x t u
