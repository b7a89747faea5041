use Rattle.std.proofs.Common.{◌≡◌, length, arith, rules}
use Rattle.plan_tasks.proofs.TableLemmas.{answered_more}
use Rattle.plan_tasks.proofs.answered.find_unanswered.Goals as goal

pub lines-preserved : goal.lines-preserved
lines-preserved c =
    let n : c.len-at-end.result ≡ length c.args.table.now.lines.items = search rules in
    let h = c.lines-test.true in
    answered_more c.args.table.now c.lines.at c.index.result.now c.is_answered.result (omega (arith, n, h))
    c.index.ensures c.is_answered.ensures c.if-not-is_answered.false c.lines.invariant
