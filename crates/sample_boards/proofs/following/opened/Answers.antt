use Rattle.std.proofs.Common.{subst, sym}
use Rattle.deploy_core.specs.Opens.{AreStartNeeds}
use Rattle.deploy_histories.specs.Events.{at_opening}
use Rattle.given_plans.specs.Given.{planned_of}
use Rattle.given_plans.proofs.StandLemmas.{nothing_seen}
use Rattle.sample_boards.proofs.following.opened.Goals as goal

pub open-requires-clause-needs : goal.open-requires-clause-needs
open-requires-clause-needs c =
    subst (AreStartNeeds (planned_of c.args.plan)) (sym c.as_slice.ensures.value) c.in-Ok.ensures

pub open-requires-clause-seen : goal.open-requires-clause-seen
open-requires-clause-seen c = nothing_seen (planned_of c.args.plan) at_opening
