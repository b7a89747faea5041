use Rattle.std.proofs.Common.{List, subst, sym}
use Rattle.task_standings.specs.Outputs.{AreOutputs}
use Rattle.task_standings.specs.declared.standing.RootOutput.{RootOutput}
use Rattle.given_plans.specs.Given.{nothing_known, planned_of}
use Rattle.given_plans.proofs.StandLemmas.{outputs_none}
use Rattle.given_plans.proofs.standing.GivenPlanStandings.outputs.Goals as goal

pub returns : goal.returns
returns c =
    subst (λ (os : List RootOutput). AreOutputs (planned_of c.args.self.now) nothing_known os) (sym c.new.ensures.items)
    (outputs_none c.args.self.now)
