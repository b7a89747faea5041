-- Where nothing keeps a command from what it asks.
use Rattle.std.specs.Prelude.{◌≡◌, ◌⊎◌, ℕ, List, map, Option, Some, None}
use Rattle.arm_edges.specs.Faults.{Rose}
use Rattle.command_reports.specs.declared.report.Report.{Report}
use Rattle.command_words.specs.Commands.{Request, ABuild, ADeploy, DeployRequest}
use Rattle.deploy_core.specs.Endings.{IsCircular}
use Rattle.deploy_histories.specs.Events.{Event, Progress, progress}
use Rattle.deploy_histories.specs.Legal.{IsLegal}
use Rattle.deploy_histories.specs.Planned.{Planned}
use Rattle.deploy_histories.specs.Readiness.{Fault}
use Rattle.deployment_theorem.specs.Commands.{IsRefusal, IsSourceOf}
use Rattle.deployment_theorem.specs.Sides.{Outside, Moment, folder_in}
use Rattle.request_deployments.specs.Past.{event_of}
use Rattle.request_deployments.specs.Reported.{HasFailed}
use Rattle.request_deployments.specs.Outcome.{Outcome}
use Rattle.source_builds.specs.Refusals.{IsNotBuilt}
use Rattle.task_standings.specs.Failures.{IsFaulty}

-- no rule refuses: no report of a true reason has status 1
abbrev pub NoRule : (Report → Type 0) → Type 0
NoRule IsReason = (r : Report) → IsReason r → ¬ (r.status ≡ 1)

-- nothing in a deployment that has come this far keeps it from success
pub record IsPassable (x : Planned) (p : Progress) : Type 0 where
  -- each answer is that something is stored or gone
  pub unrefused : p.refusal ≡ None
  -- no task that needs nothing more lacks a value, or has one that breaks its rule
  pub faultless : (u : ℕ) (f : Fault) → ¬ IsFaulty x p u f
  -- no tasks need each other in a circle
  pub orderly : (us : List ℕ) → ¬ IsCircular x p us

-- nothing in what has happened keeps a plan of the program from success
abbrev pub IsPassed : Outside → DeployRequest → List Event → Type 0
IsPassed o d h = (x : Planned) → IsSourceOf (folder_in o) d x → IsLegal x h → IsPassable x (progress h)

-- no rule refuses the command, and nothing in its deployment keeps that from success
abbrev pub IsAccepted : Outside → Option Request → Outcome → Type 0
IsAccepted o None c = ⊥
IsAccepted o (Some (ABuild b)) c = NoRule (IsNotBuilt (folder_in o) b.file b.form)
IsAccepted o (Some (ADeploy d)) c =
    NoRule (IsRefusal (folder_in o) d) × IsPassed o d (map event_of c.history.items)

-- no count of faults rose
pub record NoneFailed (before now : Moment) : Type 0 where
  pub tree : ¬ Rose before.tree_faults now.tree_faults
  pub providers : (k : ℕ) → ¬ HasFailed before.seats now.seats k
  pub output : ¬ Rose before.out_faults now.out_faults

-- such a command ends with status 0, or memory was out
abbrev pub IsComplete : Outside → Moment → Moment → Option Request → Outcome → ℕ → Type 0
IsComplete o before now command c status =
    IsAccepted o command c → NoneFailed before now → (status ≡ 0) ⊎ (status ≡ 9)
