-- What holds of deployments of plans that nothing refuses.
use Rattle.std.specs.Prelude.{◌≡◌, List, map}
use Rattle.arm_ids.specs.Held.{HeldResource}
use Rattle.deploy_cells.specs.Cells.{Cell, World}
use Rattle.deploy_histories.specs.Planned.{IsPlanned}
use Rattle.deploy_histories.specs.Events.{Event, at_opening, progress}
use Rattle.deploy_histories.specs.Legal.{IsLegal, HasSucceeded}
use Rattle.deploy_histories.specs.Outcome.{MayAnswer, AreGiven}
use Rattle.history_plans.specs.Plan.{Plan}
use Rattle.history_plans.specs.Planned.{planned_by}
use Rattle.history_holdings.specs.Opening.{IsOpening}
use Rattle.history_outcomes.specs.Outcomes.{IsOutcome}
use Rattle.task_standings.specs.Outputs.{AreAllOutputs, outputs_in, value_of}
use Rattle.task_standings.specs.declared.standing.RootOutput.{RootOutput}
use Rattle.arm_plan.specs.Accepted.{IsAccepted}

-- such a plan is one that histories can be of
abbrev pub HaveHistories : Type 0
HaveHistories = (p : Plan) (held : List HeldResource) → IsAccepted p held → IsPlanned (planned_by p held)

-- a history of it that has succeeded has an outcome, where providers may give its answers; and the outputs of the root
-- are those of the outcome
abbrev pub HaveOutcomes : MayAnswer → Type 0
HaveOutcomes may =
    (p : Plan) (held : List HeldResource) (h : List Event) → IsAccepted p held → IsOpening (planned_by p held)
    → IsLegal (planned_by p held) h → AreGiven may (planned_by p held) at_opening h
    → HasSucceeded (planned_by p held) (progress h) → (os : List RootOutput)
    → AreAllOutputs (planned_by p held) (progress h) os
    → (w : World) × (IsOutcome may (planned_by p held) h w × (map value_of os ≡ outputs_in (planned_by p held) w))

-- it has no two outcomes that differ in a cell
abbrev pub AreAlone : MayAnswer → Type 0
AreAlone may =
    (p : Plan) (held : List HeldResource) (h : List Event) → IsAccepted p held → IsLegal (planned_by p held) h
    → HasSucceeded (planned_by p held) (progress h) → (w v : World) → IsOutcome may (planned_by p held) h w
    → IsOutcome may (planned_by p held) h v → (c : Cell) → w c ≡ v c
