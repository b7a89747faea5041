-- A state that a value waits for: it is taken from the history or from what is held, or it is given by a task that is
-- not done.
use Rattle.std.specs.Prelude.{◌≡◌, ℕ, true, false, List, map, slice_get, Option, Some, option_map}
use Rattle.arm_value.specs.Json.{Json}
use Rattle.arm_value.specs.View.{json}
use Rattle.arm_ids.specs.Held.{HeldResource}
use Rattle.arm_ids.specs.declared.id.ResourceId.{ResourceId}
use Rattle.tag_places.specs.Places.{Tag}
use Rattle.key_tags.specs.KeyCodes.{key_code}
use Rattle.deploy_cells.specs.Cells.{state}
use Rattle.plan_cells.specs.Reads.{key_in, is_given_by}
use Rattle.plan_cells.specs.Start.{start_world}
use Rattle.plan_cells.specs.Tasks as tasks
use Rattle.plan_cells.specs.Tasks.{enter, put, leave, delete}
use Rattle.plan_numbers.specs.Task.{Task}
use Rattle.plan_table.specs.declared.table.Table.{Table}
use Rattle.plan_table.specs.Whole.{scopes_of}
use Rattle.plan_numbers.specs.Plans.{task_in}
use Rattle.plan_numbers.specs.Numbers.{AreNumbers}
use Rattle.plan_numbers.specs.declared.numbers.Numbers.{Numbers}
use Rattle.deploy_histories.specs.Planned.{Planned, IsPlanned}
use Rattle.deploy_histories.specs.Events.{Event, Progress, done_status, state_in}
use Rattle.deploy_histories.specs.Legal.{IsLegal}
use Rattle.point_rows.specs.declared.later.Later.{Later}
use Rattle.point_rows.specs.declared.later.StateAt.{StateAt}
use Rattle.point_rows.specs.Rows.{HasState, HasSame}
use Rattle.point_knowledge.specs.Steps.{IsStateThen}
use Rattle.point_states.specs.declared.taking.Taken.{Taken}
use Rattle.point_states.specs.declared.taking.Taken.TheVariants.{Known, Undone}

-- the tag of the key at which a task puts, by what is known at the start
abbrev pub tag_in : Planned → tasks.Task → Option Tag
tag_in x (put p s) = option_map (λ k. key_code k) (key_in x.deployment (start_world x.known) p s)
tag_in x (enter p) = Option.None
tag_in x (leave p) = Option.None
tag_in x (delete k) = Option.None

-- what is deployed over what is held has these tasks and these keys of puts, of the scopes of the table, and these
-- are their numbers; and a legal history of it
pub record IsAsked (x : Planned) (h : List Event) (held : List HeldResource) (t : Table) (us : List Task)
    (ks : List ResourceId) (n : Numbers) : Type 0 where
  pub planned : IsPlanned x
  pub is_held : x.held ≡ held
  pub has_tasks : map (task_in (scopes_of t)) us ≡ x.tasks
  pub has_keys : x.keys ≡ ks
  pub numbers : AreNumbers t us ks n
  pub legal : IsLegal x h

-- the state at the key is kept, or that there is none
pub record Keeps (k : ResourceId) (o : Option Json) (l m : Later) : Type 0 where
  pub kept : StateAt
  pub is_at : kept.key ≡ k
  pub is : option_map json kept.state ≡ o
  pub has : HasState l kept m

-- the state that the task stored is kept; or it is not done
abbrev pub IsStored : Progress → ℕ → ResourceId → Later → Later → Taken → Type 0
IsStored p v k l m Known = (done_status (p.status v) ≡ true) × Keeps k (state_in (p.status v)) l m
IsStored p v k l m (Undone u) = (u ≡ v) × ((done_status (p.status v) ≡ false) × HasSame l m)

-- the state is known now, and was known at the point; or the task gives it, and is not done
abbrev pub IsTaken : Planned → Progress → ResourceId → Later → Later → Taken → Type 0
IsTaken x p k l m Known = (s : StateAt) × ((s.key ≡ k) × (HasState l s m × IsStateThen x p s))
IsTaken x p k l m (Undone v) =
    HasSame l m × ((done_status (p.status v) ≡ false)
    × ((giver : tasks.Task) × ((slice_get x.tasks v ≡ Some giver)
    × (is_given_by x.deployment (start_world x.known) giver (state k) ≡ true))))
