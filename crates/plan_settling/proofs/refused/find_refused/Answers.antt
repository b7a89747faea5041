use Rattle.std.proofs.Common.{◌≡◌, ◌∙◌, length, arith, rules}
use Rattle.plan_table.specs.Whole.{scopes_of}
use Rattle.plan_settling.proofs.RowLemmas.{refused_by, settled_more}
use Rattle.plan_settling.proofs.refused.find_refused.Goals as goal

pub lines-preserved : goal.lines-preserved
lines-preserved c =
    let t = c.args.table.now in
    let n : c.len-at-end.result ≡ length c.args.table.now.lines.items = search rules in
    let h = c.lines-test.true in
    settled_more t c.lines.at c.lines.invariant
    (refused_by t c.lines.at c.index.result.now _ (omega (arith, n, h)) c.index.ensures
    (c.is_refused.ensures (scopes_of t)) ∙ c.if-is_refused.false)
