-- The deployment of a program, and the events that start its tasks.
use Rattle.std.specs.Prelude.{◌≡◌, ℕ, List}
use Rattle.arm_ids.specs.Held.{HeldResource}
use Rattle.template_parameters.specs.Binding.{BoundMeaning}
use Rattle.template_parts.specs.declared.mode.Mode.{Mode}
use Rattle.template_tree.specs.Tree.{TemplateTree}
use Rattle.deploy_cells.specs.Cells.{World}
use Rattle.plan_cells.specs.Known.{Table}
use Rattle.plan_cells.specs.Tasks.{Work}
use Rattle.reading.specs.Knowledge.{Completes}
use Rattle.deploy_histories.specs.Planned.{Planned}
use Rattle.deploy_histories.specs.Events.{Event, enter, begin, answer, back, leave, crash, Progress}
use Rattle.deploy_histories.specs.Points.{IsKnownThen}
use Rattle.bicep_meaning.specs.Instances.{SourceProgram}
use Rattle.emitted_programs.specs.Given.{deployed}

-- the template of a program, planned over what is held: its tasks, and what is known at the start
abbrev pub planned : SourceProgram → TemplateTree → List (List ℕ × BoundMeaning) → Mode → List HeldResource → Work
    → Table → Planned
planned d u bound mode held k t = record {
  deployment = deployed d u bound;
  mode = mode;
  held = held;
  tasks = k.tasks;
  keys = k.keys;
  known = t;
}

-- the event begins the task of a number, or enters or leaves its scope
abbrev pub Starts : ℕ → Event → Type 0
Starts i (enter j) = j ≡ i
Starts i (begin j worker body) = j ≡ i
Starts i (leave j) = j ≡ i
Starts i (answer j a) = ⊥
Starts i (back j) = ⊥
Starts i crash = ⊥

-- what is known at a point is so in the world
abbrev pub IsSoAt : Planned → Progress → World → Type 0
IsSoAt x p w = (t : Table) → IsKnownThen x p t → Completes t w
