-- What the tasks of a plan are for, by the table of its start.
use Rattle.std.specs.Prelude.{◌≡◌, ℕ, List, slice_get, Option, Some, option_map, option_and_then}
use Rattle.arm_value.specs.Json.{text}
use Rattle.arm_value.specs.View.{json}
use Rattle.arm_value.specs.declared.value.Value.{Value}
use Rattle.arm_ids.specs.Id.{text_of}
use Rattle.arm_ids.specs.declared.id.Place.{Place}
use Rattle.provider_trait.specs.declared.act.Act.TheVariants.{Put}
use Rattle.reading.specs.Knowledge.{known_value}
use Rattle.deploy_cells.specs.Cells.{step, name}
use Rattle.deploy_cells.specs.Puts.{id_at}
use Rattle.plan_cells.specs.Desired.{kinds, kind_of}
use Rattle.plan_cells.specs.Start.{start_world}
use Rattle.plan_filling.specs.Rows.{known_by}
use Rattle.plan_table.specs.declared.line.State.{State}
use Rattle.plan_table.specs.declared.listed.Listed.{Listed}
use Rattle.plan_table.specs.declared.table.Table.{Table}
use Rattle.plan_table.specs.Lines.{status_in}
use Rattle.plan_table.specs.Listed.{listed_of}
use Rattle.plan_table.specs.Whole.{whole_of}
use Rattle.plan_table.specs.Found.{scope_at}
use Rattle.plan_tasks.specs.Start.{start_of}
use Rattle.point_states.specs.Plan.{Plan}
use Rattle.point_states.specs.Plans.{work_in}
use Rattle.plan_paths.specs.Texts.{a_position, scope_text}
use Rattle.deploy_histories.specs.Outcome.{Target, put_target}
use Rattle.task_standings.specs.declared.standing.Aim.{Aim}
use Rattle.task_standings.specs.Standings.{scope_of}

abbrev pub target_by : Aim → Target
target_by a = record { act = a.act; id = a.id; api = a.api }

-- the put of a resource with a name
abbrev pub named_target : Place → Listed → List ℕ → Target
named_target place l n = record { act = Put; id = text_of (id_at place l.kind n); api = l.declaration.now.api_version }

-- the name is a text
abbrev pub IsTitle : Value → Type 0
IsTitle v = (n : List ℕ) × (json v ≡ text n)

-- what the put of a resource is for whose name is this value
abbrev pub IsAimOf : Place → Listed → Value → Aim → Type 0
IsAimOf place l v a = put_target place (Some (kind_of (listed_of l))) (Some (json v)) ≡ Some (target_by a)

-- the same by what the line of its name has
abbrev pub said_by : Place → Listed → State → Option Target
said_by place l s = put_target place (Some (kind_of (listed_of l))) (known_value (known_by (Some (status_in s))))

-- what the put of an instance of a resource is for
abbrev pub target_at : Table → ℕ → ℕ → ℕ → Option Target
target_at t f r i =
    put_target (whole_of t).place (kinds (whole_of t) (scope_at t f).position r)
    (start_world (start_of t) (name (scope_at t f).position (step r i)))

-- the position of the scope that the task of a number enters or leaves
abbrev pub place_text : Plan → ℕ → Option (List ℕ)
place_text g u =
    option_map (scope_text a_position (whole_of g.start.register.table).template)
    (option_and_then scope_of (slice_get (work_in g).tasks u))
