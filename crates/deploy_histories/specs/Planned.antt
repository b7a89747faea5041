-- What is deployed over what is held: the template and its place, the tasks, and all that is known at the start.
use Rattle.std.specs.Prelude.{◌≡◌, ℕ, zero, suc, Bool, true, false, List, [], ◌∷◌, Option, Some, None}
use Rattle.std.specs.Prelude.{option_map, if◌then◌else◌}
use Rattle.arm_value.specs.Json.{Json}
use Rattle.arm_ids.specs.Held.{HeldResource}
use Rattle.arm_ids.specs.declared.id.ResourceId.{ResourceId}
use Rattle.reading.specs.Knowledge.{value, told}
use Rattle.template_parts.specs.declared.mode.Mode.{Mode}
use Rattle.deploy_cells.specs.Cells.{Position, Cell, count, included, name, state}
use Rattle.deploy_cells.specs.Puts.{ResourcesDiffer, DeploymentsDiffer}
use Rattle.deploy_cells.specs.Same.{same_position}
use Rattle.plan_cells.specs.Known.{Table}
use Rattle.plan_cells.specs.Meaning.{Deployment, meaning}
use Rattle.plan_cells.specs.Desired.{kinds}
use Rattle.plan_cells.specs.Start.{IsStart, start_world, Basis}
use Rattle.plan_cells.specs.Tasks.{Task, leave, work}
use Rattle.plan_cells.specs.Reads.{is_given_by}

pub record Planned : Type 0 where
  pub deployment : Deployment
  pub mode : Mode
  -- what is held at the opening
  pub held : List HeldResource
  -- the tasks in their order, and the keys of the puts among them
  pub tasks : List Task
  pub keys : List ResourceId
  -- all that is known at the start
  pub known : Table

-- a count, a condition, or a name
abbrev pub is_asked_first : Cell → Bool
is_asked_first (count p r) = true
is_asked_first (included p s) = true
is_asked_first (name p s) = true
is_asked_first _ = false

-- at the start a cell is known to have a value, or not to be there
pub record IsAnswered (x : Planned) (c : Cell) : Type 0 where
  pub answer : Option Json
  pub is_told : told x.known (meaning x.deployment c) ≡ value answer

-- the tasks are those of what is known at the start; all counts, conditions and names are known then; and the keys of
-- included resources differ, as do those of included nested deployments of one scope
pub record IsPlanned (x : Planned) : Type 0 where
  pub is_start : IsStart x.deployment x.known
  pub has_tasks : told x.known (work x.deployment x.mode x.held) ≡ value (record { tasks = x.tasks; keys = x.keys })
  pub answered : (c : Cell) → is_asked_first c ≡ true → IsAnswered x c
  pub resources_differ : ResourcesDiffer x.deployment.place (kinds x.deployment) (start_world x.known)
  pub deployments_differ : DeploymentsDiffer x.deployment.place (kinds x.deployment) (start_world x.known)

-- the number of the first task that passes the test, which is asked of the number and the task
abbrev pub first_task : (ℕ → Task → Bool) → List Task → Option ℕ
first_task test [] = None
first_task test (t ∷ ts) =
    if test zero t then Some zero else option_map (λ n. suc n) (first_task (λ n u. test (suc n) u) ts)

abbrev pub is_leave_of : Position → Task → Bool
is_leave_of p (leave q) = same_position p q
is_leave_of p _ = false

module _ (x : Planned) where
  -- whether the task puts at the key
  abbrev pub puts_at : ResourceId → Task → Bool
  puts_at k t = is_given_by x.deployment (start_world x.known) t (state k)

  -- the task that puts at a key, and the one that leaves a scope
  abbrev pub putter : ResourceId → Option ℕ
  putter k = first_task (λ n t. puts_at k t) x.tasks

  abbrev pub leaver : Position → Option ℕ
  leaver p = first_task (λ n t. is_leave_of p t) x.tasks

  -- what does not change while it is deployed
  abbrev pub basis : Basis
  basis = record { start = x.known; keys = x.keys; held = x.held }
