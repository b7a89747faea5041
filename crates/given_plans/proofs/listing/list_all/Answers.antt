use Rattle.std.proofs.Common.{arith}
use Rattle.std.proofs.lemmas.List.{length-map}
use Rattle.given_plans.specs.Given.{planned_of, task_of}
use Rattle.given_plans.proofs.ListLemmas.{none_listed, all_listed}
use Rattle.given_plans.proofs.listing.list_all.Goals as goal

pub loop-first-init : goal.loop-first-init
loop-first-init c = none_listed (planned_of c.args.plan.now) c.args.needs.now.items c.requires.none

pub loop-first-preserved : goal.loop-first-preserved
loop-first-preserved c = c.in_ok-list_of.ensures

pub returns : goal.returns
returns c =
    let t = c.loop-first-test.false in
    all_listed (planned_of c.args.plan.now) c.loop-first.first c.loop-first.needs.items
    (omega (arith, t, length-map c.args.plan.now.tasks.items task_of)) c.loop-first.invariant
