use Rattle.std.proofs.Common.{arith}
use Rattle.std.proofs.lemmas.List.{length-map}
use Rattle.given_plans.specs.Given.{planned_of, task_of}
use Rattle.given_plans.proofs.ListLemmas.{row_listed}
use Rattle.given_plans.proofs.listing.list_of.Goals as goal

pub loop-second-preserved : goal.loop-second-preserved
loop-second-preserved c = c.in_ok-list_pair.ensures

pub returns : goal.returns
returns c =
    let t = c.loop-second-test.false in
    row_listed (planned_of c.args.plan.now) c.args.first c.loop-second.second c.loop-second.needs.items
    (omega (arith, t, c.requires.count, length-map c.args.plan.now.tasks.items task_of)) c.loop-second.invariant
