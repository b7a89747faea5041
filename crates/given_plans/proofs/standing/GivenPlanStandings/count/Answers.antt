use Rattle.std.proofs.Common.{arith}
use Rattle.std.proofs.lemmas.List.{length-map}
use Rattle.given_plans.specs.Given.{task_of}
use Rattle.given_plans.proofs.standing.GivenPlanStandings.count.Goals as goal

pub returns : goal.returns
returns c = let n = c.len.ensures in omega (arith, n, length-map c.args.self.now.tasks.items task_of)
