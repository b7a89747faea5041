-- What the plan of a deployment has.
use Rattle.std.specs.Prelude.{◌≡◌, ◌<◌, List, map, length}
use Rattle.arm_ids.specs.Held.{HeldResource}
use Rattle.arm_ids.specs.declared.id.ResourceId.{ResourceId}
use Rattle.reading.specs.World.{Each}
use Rattle.reading.specs.Knowledge.{value, told}
use Rattle.template_parameters.specs.Binding.{bound_view}
use Rattle.template_parts.specs.declared.mode.Mode.{Mode}
use Rattle.template_tree.specs.View.{template_tree}
use Rattle.deploy_cells.specs.Cells.{step}
use Rattle.plan_cells.specs.Known as known
use Rattle.plan_cells.specs.Meaning.{Deployment}
use Rattle.plan_cells.specs.Tasks as tasks
use Rattle.plan_cells.specs.Tasks.{Work, work, enter, leave, put, delete}
use Rattle.plan_cells.specs.Plan.{Need, AreNeeds}
use Rattle.plan_cells.specs.Start.{IsStart}
use Rattle.plan_table.specs.declared.table.Table.{Table}
use Rattle.plan_table.specs.Opened.{Opened, opened_at}
use Rattle.plan_table.specs.Whole.{whole_of, scopes_of}
use Rattle.plan_tasks.specs.Start.{start_of, IsStartTable, IsInstance, IsPutAt}
use Rattle.plan_elements.specs.Needs.{AreInOrder, AreWithin}
use Rattle.plan_start.specs.Sheets.{IsSheet}
use Rattle.plan_assembly.specs.declared.plan.Plan.{Plan}
use Rattle.plan_assembly.specs.declared.plan.Task.{Task}
use Rattle.plan_assembly.specs.declared.plan.Task.TheVariants.{Enter, Put, Leave, Delete}

-- the task is of a scope that is there, puts an instance that is there and no nested deployment, or deletes
abbrev pub IsTaskIn : Table → Task → Type 0
IsTaskIn t (Enter f) = f < length t.frames.items
IsTaskIn t (Put f r i) = IsInstance t f r i × IsPutAt t f r
IsTaskIn t (Leave f) = f < length t.frames.items
IsTaskIn t (Delete k) = Unit {0}

-- the task of the scopes of these numbers
abbrev pub task_in : List Opened → Task → tasks.Task
task_in os (Enter f) = enter (opened_at os f).position
task_in os (Put f r i) = put (opened_at os f).position (step r i)
task_in os (Leave f) = leave (opened_at os f).position
task_in os (Delete k) = delete k

-- tasks and keys, where these are the scopes of a table
abbrev pub work_with : Table → List Task → List ResourceId → Work
work_with t us ks = record { tasks = map (task_in (scopes_of t)) us; keys = ks }

-- these are the tasks of what is deployed, the keys of its puts, and its needs, each once and in order, by what a table
-- has of the start; and the tasks are of its scopes
pub record ArePlanned (t : Table) (mode : Mode) (held : List HeldResource) (us : List Task) (ks : List ResourceId)
    (ns : List Need) : Type 0 where
  pub has_work : told (start_of t) (work (whole_of t) mode held) ≡ value (work_with t us ks)
  pub of_table : Each (IsTaskIn t) us
  pub has_needs : AreNeeds (whole_of t) (start_of t) (map (task_in (scopes_of t)) us) ns
  pub in_order : AreInOrder ns
  pub within : AreWithin (length us) ns

-- what is deployed
abbrev pub deployment_of : Plan → Deployment
deployment_of p = record {
  template = template_tree p.template.now;
  bound = map bound_view p.bound.now;
  place = p.place.now;
}

-- what is known at its start
abbrev pub known_in : Plan → known.Table
known_in p = start_of p.start.register.table

-- its tasks, and the keys of its puts
abbrev pub work_in : Plan → Work
work_in p = work_with p.start.register.table p.tasks.items p.keys.items

-- the plan has the tasks, the keys and the needs of what is deployed, and its start has all that is known then
pub record IsPlanned (p : Plan) (held : List HeldResource) : Type 0 where
  pub sheet : IsSheet p.start.register
  pub table : IsStartTable p.start.register.table
  pub whole : whole_of p.start.register.table ≡ deployment_of p
  pub is_start : IsStart (deployment_of p) (known_in p)
  pub are_planned : ArePlanned p.start.register.table p.mode held p.tasks.items p.keys.items p.needs.items
