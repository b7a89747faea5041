use Rattle.std.proofs.Common.{◌<◌, length, sym, subst, arith}
use Rattle.plan_sight.proofs.LookLemmas.{scope_is}
use Rattle.plan_telling.specs.Symbols.{AreKept}
use Rattle.plan_start.proofs.SheetLemmas.{one_more_kept}
use Rattle.plan_start.proofs.sheet.keep_next.Goals as goal

pub returns-in_ok-push-clause-kept : goal.returns-in_ok-push-clause-kept
returns-in_ok-push-clause-kept c =
    let t = c.args.register.now.table in
    let less = c.if-number-len.true in
    let all = c.len.ensures in
    let h : c.len-number.result < length t.frames.items = omega (arith, less, all) in
    one_more_kept t c.len-number.result c.args.register.now.kept.items c.push.new.self.items c.in_ok-kept.kept
    c.requires.laid h c.requires.kept
    (subst (AreKept c.in_ok-kept.kept) (sym (scope_is t c.len-number.result c.index.result.now h c.index.ensures))
    c.in_ok-kept.ensures) c.in_ok-push.ensures.items
