-- What a filled table says of the start, and the tasks of its scopes.
use Rattle.std.specs.Prelude.{◌≡◌, ℕ, ◌<◌, true, false, List, ◌∷◌, length, slice_get, Option, Some, None}
use Rattle.std.specs.Prelude.{if◌then◌else◌}
use Rattle.deploy_cells.specs.Cells.{step}
use Rattle.plan_cells.specs.Known as known
use Rattle.plan_cells.specs.Resources.{Listed, Nested, nested_in}
use Rattle.plan_cells.specs.Tasks.{Task, enter, leave, put}
use Rattle.plan_table.specs.Rows.{status_of}
use Rattle.plan_table.specs.Final.{final}
use Rattle.plan_table.specs.Steps.{Filled}
use Rattle.plan_table.specs.declared.table.Table.{Table}
use Rattle.plan_table.specs.Opened.{Opened, opened_at}
use Rattle.plan_table.specs.Lines.{IsNumber}
use Rattle.plan_table.specs.Whole.{whole_of, rows_in, IsLaid}
use Rattle.plan_table.specs.Found.{scope_at}
use Rattle.plan_tasks.specs.declared.task.ScopeTask.{ScopeTask}
use Rattle.plan_tasks.specs.declared.task.ScopeTask.TheVariants.{Enter, Put, Leave}
use Rattle.plan_tasks.specs.declared.instance.Found.{Found}
use Rattle.plan_tasks.specs.declared.instance.Found.TheVariants.{LeftAway, Resource, Scope}
use Rattle.plan_tasks.specs.Answered.{AreRowsAnswered}
use Rattle.plan_tasks.specs.InOrder.{copies_in, is_in}

-- what is known at the start by a table that is filled
abbrev pub start_of : Table → known.Table
start_of t = final (status_of (rows_in t))

-- a table in which tasks can be looked up: it is filled, and counts, conditions and names have values
pub record IsStartTable (t : Table) : Type 0 where
  pub laid : IsLaid t
  pub filled : Filled (whole_of t) (rows_in t)
  pub answered : AreRowsAnswered (rows_in t)

-- the task of the scopes of these numbers
abbrev pub task_of : List Opened → ScopeTask → Task
task_of os (Enter f) = enter (opened_at os f).position
task_of os (Put f r i) = put (opened_at os f).position (step r i)
task_of os (Leave f) = leave (opened_at os f).position

-- how many instances a resource has, where it is not existing
abbrev pub copies_of : Table → ℕ → ℕ → Listed → ℕ
copies_of t f r x =
    if x.declaration.existing then 0 else copies_in (start_of t) (scope_at t f).position r

-- an instance of a resource is there
pub record IsInstance (t : Table) (f r i : ℕ) : Type 0 where
  pub there : f < length t.frames.items
  pub number : IsNumber (scope_at t f) r
  pub within : i < copies_in (start_of t) (scope_at t f).position r

-- the scope number g is the one that an instance of a nested deployment opened
pub record IsScopeOf (t : Table) (f r i g : ℕ) (n : Nested) : Type 0 where
  pub there : g < length t.frames.items
  pub later : f < g
  pub position : (scope_at t g).position ≡ step r i ∷ (scope_at t f).position
  pub template : (scope_at t g).template ≡ n.template

-- what an instance of a resource is
abbrev pub IsFound : Table → ℕ → ℕ → ℕ → Listed → Found → Type 0
IsFound t f r i x LeftAway = is_in (start_of t) (scope_at t f).position (step r i) ≡ false
IsFound t f r i x Resource =
    (is_in (start_of t) (scope_at t f).position (step r i) ≡ true) × (nested_in x.content ≡ None)
IsFound t f r i x (Scope g) =
    (is_in (start_of t) (scope_at t f).position (step r i) ≡ true)
    × ((n : Nested) × ((nested_in x.content ≡ Some n) × IsScopeOf t f r i g n))

-- what an instance is that is included: a nested deployment, which opened the scope number g, or a resource
abbrev pub found_by : Option Nested → ℕ → Found
found_by None g = Resource
found_by (Some n) g = Scope g

-- the resource of the number is no nested deployment
abbrev pub IsPutAt : Table → ℕ → ℕ → Type 0
IsPutAt t f r = (x : Listed) → slice_get (scope_at t f).resources r ≡ Some x → nested_in x.content ≡ None

-- the task is of a scope that is there, and puts an instance that is there
abbrev pub IsTaskOf : Table → ScopeTask → Type 0
IsTaskOf t (Enter f) = f < length t.frames.items
IsTaskOf t (Put f r i) = IsInstance t f r i × IsPutAt t f r
IsTaskOf t (Leave f) = f < length t.frames.items
