-- What is known of a deployment at a point: the table of its start, and what is kept beside it.
use Rattle.std.specs.Prelude.{◌≡◌, ℕ, Bool, true, false, List, slice_get, Some}
use Rattle.arm_ids.specs.Held.{HeldResource}
use Rattle.reading.specs.Knowledge.{Grows, IsThere}
use Rattle.deploy_cells.specs.Cells.{Position, Cell, parameter, variable, offered, output, count, included, name}
use Rattle.deploy_cells.specs.Cells.{deployments, state}
use Rattle.plan_cells.specs.Known as known
use Rattle.plan_cells.specs.Meaning.{Deployment}
use Rattle.plan_cells.specs.Tasks.{enter}
use Rattle.plan_table.specs.declared.table.Table.{Table}
use Rattle.plan_table.specs.declared.line.Spot.{Spot}
use Rattle.plan_table.specs.declared.line.Spot.TheVariants.{Parameter, Variable, Offered, Output, Count, Included}
use Rattle.plan_table.specs.declared.line.Spot.TheVariants.{Name, Deployments}
use Rattle.plan_table.specs.Lines.{frame_of, line_at}
use Rattle.plan_table.specs.Whole.{whole_of}
use Rattle.plan_tasks.specs.Start.{start_of, IsStartTable}
use Rattle.task_aims.specs.Plan.{Plan}
use Rattle.task_aims.specs.Task.{Task}
use Rattle.task_aims.specs.Plans.{IsPlanned}
use Rattle.task_aims.specs.Numbered.{TaskNumbers as Numbers}
use Rattle.task_aims.specs.Numbers.{AreNumbers}
use Rattle.deploy_histories.specs.Planned as histories
use Rattle.deploy_histories.specs.Planned.{Planned}
use Rattle.deploy_histories.specs.Events.{Event, Progress, progress, is_waiting, IsDone}
use Rattle.deploy_histories.specs.Legal.{IsLegal}
use Rattle.task_aims.specs.Planned.{planned_by}
use Rattle.point_values.specs.Seen.{IsSeen}
use Rattle.point_rows.specs.declared.later.Later.{Later}
use Rattle.point_rows.specs.Rows.{known_now, IsFit}
use Rattle.task_standings.specs.Standings.{AreStartNeedsDone, AreScopesSeen}
use Rattle.awaited_cells.specs.Awaited.{IsDeclaredAt}

-- the table of the start of a plan
abbrev pub table_of : Plan → Table
table_of g = g.start.register.table

-- the number of the scope of the cell of a line
abbrev pub line_frame : Table → ℕ → ℕ
line_frame t j = frame_of (line_at t.lines.items j).spot

-- an output, or the condition of one
abbrev pub is_output_spot : Spot → Bool
is_output_spot (Offered f n) = true
is_output_spot (Output f n) = true
is_output_spot (Parameter f n) = false
is_output_spot (Variable f n) = false
is_output_spot (Count f r) = false
is_output_spot (Included f r i) = false
is_output_spot (Name f r i) = false
is_output_spot (Deployments f) = false

-- the plan is deployed over what is held, with this history; and these are the numbers of its tasks
pub record IsUnderWay (g : Plan) (held : List HeldResource) (n : Numbers) (h : List Event) : Type 0 where
  pub is_planned : IsPlanned g held
  pub has_histories : histories.IsPlanned (planned_by g held)
  pub numbers : AreNumbers (table_of g) g.tasks.items g.keys.items n
  pub legal : IsLegal (planned_by g held) h

-- what is deployed is what the table has, and the table has all that is known at its start
pub record IsStartOf (x : Planned) (t : Table) : Type 0 where
  pub deployment : x.deployment ≡ whole_of t
  pub known : x.known ≡ start_of t
  pub table : IsStartTable t

-- what is kept beside the table is seen at the point, and has what scopes have that were entered or left
pub record IsKeptAt (x : Planned) (p : Progress) (t : Table) (l : Later) : Type 0 where
  pub seen : IsSeen x p (known_now t l)
  pub scopes : AreScopesSeen x p (known_now t l)

-- this is kept at the point after a history of a plan
pub record IsAtPoint (g : Plan) (held : List HeldResource) (n : Numbers) (h : List Event) (l : Later) : Type 0 where
  pub under_way : IsUnderWay g held n h
  pub fit : IsFit (table_of g) l
  pub kept : IsKeptAt (planned_by g held) (progress h) (table_of g) l

-- the task has the number and waits, and what it needs at the start is done
pub record IsNext (g : Plan) (held : List HeldResource) (h : List Event) (u : ℕ) (task : Task) : Type 0 where
  pub is_task : slice_get g.tasks.items u ≡ Some task
  pub waits_still : (progress h).status u ≡ is_waiting
  pub needs_done : AreStartNeedsDone (planned_by g held) (progress h) u

-- states became known, and nothing else
pub record HasStates (g : Plan) (held : List HeldResource) (h : List Event) (l m : Later) : Type 0 where
  pub fit : IsFit (table_of g) m
  pub entries : m.entries.items ≡ l.entries.items
  pub grows : Grows (known_now (table_of g) l) (known_now (table_of g) m)
  pub kept : IsKeptAt (planned_by g held) (progress h) (table_of g) m

-- the scope was entered
pub record IsEntered (x : Planned) (p : Progress) (q : Position) : Type 0 where
  pub number : ℕ
  pub is_task : slice_get x.tasks number ≡ Some (enter q)
  pub is_done : IsDone p number

-- a parameter or variable is in the table, and an output is declared
abbrev pub IsInSight : Deployment → known.Table → Cell → Type 0
IsInSight d q (parameter p y) = IsThere (q (parameter p y))
IsInSight d q (variable p y) = IsThere (q (variable p y))
IsInSight d q (offered p y) = IsDeclaredAt d p y
IsInSight d q (output p y) = IsDeclaredAt d p y
IsInSight d q (count p r) = Unit {0}
IsInSight d q (included p s) = Unit {0}
IsInSight d q (name p s) = Unit {0}
IsInSight d q (deployments p) = Unit {0}
IsInSight d q (state k) = Unit {0}
