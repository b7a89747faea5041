use Rattle.given_plans.specs.Given.{nothing_known}
use Rattle.given_plans.proofs.StandLemmas.{grows_itself, scope_seen}
use Rattle.given_plans.proofs.standing.GivenPlanStandings.left.Goals as goal

pub returns-clause-grows : goal.returns-clause-grows
returns-clause-grows c = grows_itself nothing_known

pub returns-clause-left : goal.returns-clause-left
returns-clause-left c = scope_seen c.args.self.now nothing_known c.args.task
