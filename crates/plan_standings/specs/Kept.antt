-- What is kept of a plan under way: what is known beside the table of its start, and the outputs of a scope that is
-- left next.
use Rattle.std.specs.Prelude.{◌≡◌, ℕ, List, slice_get, Option, Some}
use Rattle.arm_value.specs.Json.{null}
use Rattle.arm_value.specs.View.{json}
use Rattle.arm_ids.specs.Held.{HeldResource}
use Rattle.plan_cells.specs.Known as known
use Rattle.task_aims.specs.Plan.{Plan}
use Rattle.task_aims.specs.Task.TheVariants.{Leave}
use Rattle.task_aims.specs.Plans.{IsPlanned}
use Rattle.task_aims.specs.Numbers.{AreNumbers}
use Rattle.deploy_histories.specs.Planned as histories
use Rattle.deploy_histories.specs.Planned.{Planned}
use Rattle.deploy_histories.specs.Events.{at_opening}
use Rattle.task_aims.specs.Planned.{planned_by}
use Rattle.point_values.specs.Seen.{IsSeen}
use Rattle.point_rows.specs.declared.later.Later.{Later}
use Rattle.point_rows.specs.Rows.{known_now, IsFit}
use Rattle.point_knowledge.specs.Steps.{IsBlank}
use Rattle.scope_faults.specs.Entries.{AreTold}
use Rattle.scope_faults.specs.Outputs.{names_of, AreNoted}
use Rattle.task_standings.specs.declared.standing.Standing.{Standing}
use Rattle.task_standings.specs.declared.standing.Standing.TheVariants.{Ready, Waits, Stuck}
use Rattle.plan_standings.specs.Waits.{table_of}
use Rattle.plan_standings.specs.declared.leaving.Leaving.{Leaving}
use Rattle.plan_standings.specs.declared.leaving.Leaving.TheVariants.{Told, Stands}
use Rattle.plan_standings.specs.declared.leaving.Outputs.{Outputs}
use Rattle.plan_standings.specs.declared.standings.PlanStandings.{PlanStandings}
use Rattle.plan_standings.specs.declared.standings.Parts.{Parts}

-- what is deployed
abbrev pub planned_of : PlanStandings → Planned
planned_of s = planned_by s.plan.now s.held.now

-- what is known
abbrev pub known_of : PlanStandings → known.Table
known_of s = known_now (table_of s.plan.now) s.later

-- the numbers are those of the plan's tasks, there is an entry for each line of its table, and each entry of a
-- parameter or a variable is what is told of it
pub record IsSound (s : PlanStandings) : Type 0 where
  pub is_planned : IsPlanned s.plan.now s.held.now
  pub has_histories : histories.IsPlanned (planned_of s)
  pub numbers : AreNumbers (table_of s.plan.now) s.plan.now.tasks.items s.plan.now.keys.items s.numbers
  pub fit : IsFit (table_of s.plan.now) s.later
  pub told : AreTold (table_of s.plan.now) s.later

-- the outputs are noted of the scope that the task leaves, as they are told
pub record IsNoted (g : Plan) (l : Later) (o : Option Outputs) (u : ℕ) : Type 0 where
  pub noted : Outputs
  pub is : o ≡ Some noted
  pub frame : ℕ
  pub is_task : slice_get g.tasks.items u ≡ Some (Leave frame)
  pub are_noted : AreNoted (table_of g) l frame (names_of (table_of g) frame) noted.told.items

abbrev pub HasNoted : PlanStandings → ℕ → Type 0
HasNoted s u = IsNoted s.plan.now s.later s.noted u

-- the readiness of a task that leaves a scope: its outputs are noted where each is told
abbrev pub IsReadyWith : Option Outputs → Outputs → Standing → Type 0
IsReadyWith o n (Ready v) = (o ≡ Some n) × (json v ≡ null)
IsReadyWith o n (Waits v) = ⊥
IsReadyWith o n Stuck = ⊥

abbrev pub IsNotedBy : Leaving → Option Outputs → Standing → Type 0
IsNotedBy (Told ns) o s = IsReadyWith o (record { told = ns }) s
IsNotedBy (Stands r) o s = s ≡ r

-- what is known at the start of a deployment of the plan over what is held
pub record IsNew (g : Plan) (held : List HeldResource) (s : PlanStandings) : Type 0 where
  pub plan : s.plan.now ≡ g
  pub held_then : s.held.now ≡ held
  pub sound : IsSound s
  pub seen : IsSeen (planned_of s) at_opening (known_of s)

-- these are the numbers of the tasks of the plan, and nothing became known
pub record AreFirst (g : Plan) (p : Parts) : Type 0 where
  pub numbers : AreNumbers (table_of g) g.tasks.items g.keys.items p.numbers
  pub fit : IsFit (table_of g) p.later
  pub blank : IsBlank p.later
