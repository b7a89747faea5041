use Rattle.deploy_histories.specs.Events.{at_opening}
use Rattle.given_plans.specs.Given.{planned_of}
use Rattle.given_plans.proofs.StandLemmas.{nothing_seen}
use Rattle.board_times.proofs.played.Goals as goal

pub open-requires-clause-seen : goal.open-requires-clause-seen
open-requires-clause-seen c = nothing_seen (planned_of c.args.plan) at_opening
