use Rattle.std.proofs.Common.{◌≡◌, length, arith, rules}
use Rattle.plan_openers.proofs.SameLemmas.{list_more, list_end}
use Rattle.plan_openers.proofs.same.list_scope_tags.Goals as goal

pub frames-preserved : goal.frames-preserved
frames-preserved c =
    let n : c.len-frame-end.result ≡ length c.args.table.now.frames.items = search rules in
    let h = c.frames-test.true in
    list_more c.args.table.now c.requires.table c.frames.frame c.frames.all.items c.push.new.self.items
    c.in_ok-tags.tags (omega (arith, n, h)) c.in_ok-push.ensures.items c.in_ok-tags.ensures c.frames.invariant

pub returns : goal.returns
returns c =
    let n : c.len-frame-end.result ≡ length c.args.table.now.frames.items = search rules in
    let h = c.frames-test.false in
    list_end c.args.table.now c.requires.table c.frames.frame c.frames.all.items (omega (arith, n, h))
    c.frames.invariant
