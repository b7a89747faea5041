use Rattle.std.proofs.Common.{◌≡◌, length, arith, rules}
use Rattle.plan_puts.proofs.LineLemmas.{tags_more}
use Rattle.plan_puts.proofs.same.tags_of_lines.Goals as goal

pub lines-preserved : goal.lines-preserved
lines-preserved c =
    let n : c.len-at-end.result ≡ length c.args.table.now.lines.items = search rules in
    let h = c.lines-test.true in
    tags_more c.args.table.now c.lines.at c.lines.all.items c.push.new.self.items c.in_ok-tags.tags
    (omega (arith, n, h)) c.in_ok-push.ensures.items c.in_ok-tags.ensures c.lines.invariant
