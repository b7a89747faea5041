-- What is said of the fault of a task: where in the template its text is, and which rule its value breaks.
use Rattle.std.specs.Prelude.{◌≡◌, ℕ, List, [], slice_get, Some}
use Rattle.template_parts.specs.declared.fault.BindFault.{BindFault}
use Rattle.plan_cells.specs.Tasks.{Task, enter, leave, put, delete}
use Rattle.plan_paths.specs.Texts.{a_path, instance_text}
use Rattle.plan_paths.specs.CellPaths.{cell_path}
use Rattle.deploy_histories.specs.Planned.{Planned}
use Rattle.deploy_histories.specs.Values.{Part, a_body, a_cell}
use Rattle.deploy_histories.specs.Readiness.{Fault, lacks, breaks}
use Rattle.scope_faults.specs.Faults.{broken_by}
use Rattle.task_standings.specs.declared.standing.TaskFault.{TaskFault}
use Rattle.task_standings.specs.declared.standing.TaskFault.TheVariants.{NoValue, Unsuited}
use Rattle.task_standings.specs.Failures.{Tells}

-- the path of the resource that a task puts
abbrev pub body_path : Planned → Task → List ℕ
body_path x (put p s) = instance_text a_path x.deployment.template p s
body_path x (enter p) = []
body_path x (leave p) = []
body_path x (delete k) = []

-- the path of the text of a part of a task
abbrev pub part_path : Planned → Task → Part → List ℕ
part_path x task a_body = body_path x task
part_path x task (a_cell c) = cell_path x.deployment.template c

-- what is said of a fault of the task: that the text at a path has no value, or which rule the value there breaks
abbrev pub SaysFault : Planned → Task → Fault → TaskFault → Type 0
SaysFault x task (lacks a) said = said ≡ NoValue (part_path x task a)
SaysFault x task (breaks c j) said =
    (b : BindFault) × ((broken_by x.deployment c j ≡ Some b) × (said ≡ Unsuited (cell_path x.deployment.template c) b))

-- of the task of the number
abbrev pub tells : Tells
tells x u f said = (task : Task) × ((slice_get x.tasks u ≡ Some task) × SaysFault x task f said)
