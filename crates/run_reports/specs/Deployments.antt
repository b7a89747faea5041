-- A deployment that was run, and what holds of it: the clauses of the deployment theorem.
use Rattle.std.specs.Prelude.{◌≡◌, Bool, List, map, Result, Ok}
use Rattle.std.specs.declared.alloc.Global.{Global}
use Rattle.std.specs.declared.vec.Vec.{Vec}
use Rattle.seat_calls.specs.Called.{Kind}
use Rattle.seat_calls.specs.declared.seat.Seat.{Seat}
use Rattle.deploy_cells.specs.Cells.{World}
use Rattle.deploy_histories.specs.Planned.{Planned}
use Rattle.deploy_histories.specs.Events.{Event, at_opening, progress}
use Rattle.deploy_histories.specs.Legal.{IsLegal, HasEnded, HasSucceeded}
use Rattle.deploy_histories.specs.Outcome.{AreGiven}
use Rattle.history_outcomes.specs.Outcomes.{IsOutcome}
use Rattle.task_standings.specs.Failures.{Tells}
use Rattle.task_standings.specs.Outputs.{AreAllOutputs, outputs_in, value_of}
use Rattle.task_standings.specs.declared.standing.RootOutput.{RootOutput}
use Rattle.deploy_core.specs.Endings.{IsTrueEnding}
use Rattle.deploy_core.specs.Steps.{steps_of}
use Rattle.deploy_core.specs.declared.ending.Ending.{Ending}
use Rattle.deploy_core.specs.declared.ending.Ending.TheVariants.{Succeeded}
use Rattle.deployment_runs.specs.Runs.{HasRun}
use Rattle.deployment_runs.specs.declared.fault.RunFault.{RunFault}
use Rattle.run_reports.specs.Sides.{ProviderSide, MadeCalls}

-- a deployment that was run: what was planned, what has happened, and how it has ended, or why it has no ending
pub record DeploymentRun : Type 0 where
  pub planned : Planned
  pub history : List Event
  pub ending : Result Ending RunFault

-- what is outside a deployment: which answers providers may give, whether they report their calls, what is told of the
-- faults of tasks, and the seats before and after it
pub record Surroundings : Type 1 where
  pub may : Kind
  pub tells_calls : Bool
  pub tells_faults : Tells
  pub before : List (Seat ProviderSide)
  pub now : List (Seat ProviderSide)

-- success: the world is a desired state of the template that belongs to the answers, and the outputs are those of its
-- root
pub record Success (may : Kind) (r : DeploymentRun) (os : List RootOutput) : Type 0 where
  pub world : World
  pub outcome : IsOutcome may r.planned r.history world
  pub outputs : map value_of os ≡ outputs_in r.planned world

-- what holds of a run, whatever its plan is of
pub record Ran (s : Surroundings) (r : DeploymentRun) : Type 0 where
  -- order: each event came where it might, so that what it needs was done before
  pub order : IsLegal r.planned r.history
  -- failure: an ending is a true one
  pub ended : (e : Ending) → r.ending ≡ Ok e → HasEnded r.planned (progress r.history)
  pub failure : (e : Ending) → r.ending ≡ Ok e → IsTrueEnding s.tells_faults r.planned (progress r.history) e
  -- calls: those of each provider were the Begins with the number of its seat, in order
  pub calls : HasRun (MadeCalls s.may s.tells_calls) (steps_of r.planned r.history) s.before s.now
  -- the answers are those that providers may give
  pub given : AreGiven s.may r.planned at_opening r.history

-- whatever has happened by such answers, if it succeeded it has led to a desired state, and its outputs are those of its
-- root
abbrev pub LeadsToStates : Kind → Planned → Type 0
LeadsToStates may x = (h : List Event) → IsLegal x h → AreGiven may x at_opening h → HasSucceeded x (progress h)
    → (os : List RootOutput) → AreAllOutputs x (progress h) os
    → (w : World) × (IsOutcome may x h w × (map value_of os ≡ outputs_in x w))

-- a deployment of what this is true of
pub record Deployed (IsSource : Planned → Type 0) (s : Surroundings) (r : DeploymentRun) : Type 0 where
  -- what was planned is what the source means
  pub source : IsSource r.planned
  -- where it succeeded, its answers are those of a desired state, and its outputs those of its root
  pub success : (os : Vec RootOutput Global) → r.ending ≡ Ok (Succeeded os) → Success s.may r os.items
  -- each event came where it might, so that what it needs was done before
  pub order : IsLegal r.planned r.history
  -- an ending is a true one: a failure names the tasks, and its cause is true
  pub failure : (e : Ending) → r.ending ≡ Ok e → IsTrueEnding s.tells_faults r.planned (progress r.history) e
  -- the calls of each provider were the Begins with the number of its seat, in order
  pub calls : HasRun (MadeCalls s.may s.tells_calls) (steps_of r.planned r.history) s.before s.now
