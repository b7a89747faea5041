-- The plan of a deployment, as its histories have it.
use Rattle.std.specs.Prelude.{List}
use Rattle.arm_ids.specs.Held.{HeldResource}
use Rattle.plan_assembly.specs.declared.plan.Plan.{Plan}
use Rattle.plan_assembly.specs.Plans.{deployment_of, known_in, work_in}
use Rattle.deploy_histories.specs.Planned.{Planned}

-- what a plan deploys, over what is held
abbrev pub planned_by : Plan → List HeldResource → Planned
planned_by p h = record {
  deployment = deployment_of p;
  mode = p.mode;
  held = h;
  tasks = (work_in p).tasks;
  keys = (work_in p).keys;
  known = known_in p;
}
