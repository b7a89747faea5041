use Rattle.std.proofs.Common.{get_or}
use Rattle.plan_table.proofs.MarkLemmas.{counts_more}
use Rattle.plan_table.proofs.spots.push_counts.Goals as goal

pub loop-number-preserved : goal.loop-number-preserved
loop-number-preserved c =
    counts_more c.args.frame c.loop-number.number c.args.resources.now c.index-resources-number.result
    (get_or c.args.resources.now c.loop-number.number c.index-resources-number.result)
    c.args.spots.now.items c.loop-number.spots.items c.push_count.new.spots.items c.loop-number-test.true
    c.index-resources-number.is c.index-resources-number.is c.loop-number.invariant c.in_ok-push_count.ensures
