use Rattle.std.proofs.Common.{◌≡◌, ◌∙◌, ℕ, length, ap, arith, rules}
use Rattle.std.specs.declared.vec.Vec.{Vec}
use Rattle.std.specs.declared.alloc.Global.{Global}
use Rattle.foundation.proofs.Lists.{map-push}
use Rattle.tag_holders.specs.Holders.{classes_in}
use Rattle.plan_table.specs.declared.line.Line.{Line}
use Rattle.dependency_faults.specs.Names.{spot_class}
use Rattle.dependency_faults.proofs.LineLemmas.{lines_more, lines_end}
use Rattle.dependency_faults.proofs.names.classes_of_lines.Goals as goal

pub lines-preserved : goal.lines-preserved
lines-preserved c =
    let n : c.len-at-end.result ≡ length c.args.table.now.lines.items = search rules in
    let h = c.lines-test.true in
    lines_more (λ (x : Line). spot_class c.args.table.now x.spot) c.args.table.now.lines.items c.lines.at
    (classes_in c.lines.all.items) (classes_in c.push.new.self.items) c.in_ok-class.class.items (omega (arith, n, h))
    (ap classes_in c.in_ok-push.ensures.items ∙ map-push (λ (v : Vec ℕ Global). v.items) c.lines.all.items
    c.in_ok-class.class) c.in_ok-class.ensures c.lines.invariant

pub returns : goal.returns
returns c =
    let n : c.len-at-end.result ≡ length c.args.table.now.lines.items = search rules in
    let h = c.lines-test.false in
    lines_end (λ (x : Line). spot_class c.args.table.now x.spot) c.args.table.now.lines.items c.lines.at
    (classes_in c.lines.all.items) (omega (arith, n, h)) c.lines.invariant
