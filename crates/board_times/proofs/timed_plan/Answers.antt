use Rattle.std.proofs.Common.{subst, sym}
use Rattle.deploy_core.specs.Opens.{AreStartNeeds}
use Rattle.given_plans.specs.Given.{planned_of}
use Rattle.board_times.proofs.timed_plan.Goals as goal

pub timed-requires-clause-needs : goal.timed-requires-clause-needs
timed-requires-clause-needs g c =
    subst (AreStartNeeds (planned_of c.args.plan)) (sym c.as_slice.ensures.value) c.in-Ok.ensures
