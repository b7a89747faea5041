use Rattle.std.proofs.Common.{◌+◌, ap, map, drop, sym, ◌∙◌}
use Rattle.std.proofs.lemmas.List.{drop_all}
use Rattle.arm_expr.specs.Tree.{call, trees}
use Rattle.arm_expr.specs.View.{tree_of}
use Rattle.measured_holes.specs.Holes.{fill, fill_all, in_hole}
use Rattle.emitted_parts.proofs.BuiltLemmas.{grown, all_grown, is_also}
use Rattle.foundation.proofs.Lists.{next_item}
use Rattle.kept_expressions.proofs.FillingLemmas.{hole_filled, call_filled}
use Rattle.kept_expressions.proofs.filling.+filling.Goals as goal

pub called-returns-then-is_empty : goal.called-returns-then-is_empty
called-returns-then-is_empty t c = λ f p q.
    let es = trees (map tree_of c.args.arguments.now) in
    is_also (in_hole f es) (fill f (call c.args.name.now es)) c.hole.result
    (hole_filled f c.args.name.now es (sym c.is_empty.ensures ∙ c.if-is_empty.true)) (c.hole.ensures f p q)

pub called-returns-else-is_empty : goal.called-returns-else-is_empty
called-returns-else-is_empty t c = λ f p q.
    let es = trees (map tree_of c.args.arguments.now) in
    is_also (call c.args.name.now (fill_all f es)) (fill f (call c.args.name.now es)) c.named.result
    (call_filled f c.args.name.now es (sym c.is_empty.ensures ∙ c.if-is_empty.false))
    (c.named.ensures c.args.name.now (fill_all f es) c.copy.ensures (c.all_filled.ensures f p q))

pub all_filled-loop-part-preserved : goal.all_filled-loop-part-preserved
all_filled-loop-part-preserved t c = λ f p q.
    let parts = c.args.parts.now in
    let i = c.loop-part.part-index in
    grown c.loop-part.all c.in-Ok.more c.filled.result (fill f (tree_of c.part-item.result))
    (fill_all f (trees (map tree_of (drop i parts)))) (fill_all f (trees (map tree_of (drop (i + 1) parts))))
    (fill_all f (trees (map tree_of parts))) c.in-Ok.ensures (c.filled.ensures f p q) (c.loop-part.invariant f p q)
    (ap (λ xs. fill_all f (trees (map tree_of xs)))
    (next_item parts i c.part-item.result c.loop-part-test.true c.part-item.is))

pub all_filled-returns : goal.all_filled-returns
all_filled-returns t c = λ f p q.
    let parts = c.args.parts.now in
    let i = c.loop-part.part-index in
    all_grown c.loop-part.all (fill_all f (trees (map tree_of (drop i parts)))) (fill_all f (trees (map tree_of parts)))
    (c.loop-part.invariant f p q)
    (ap (λ xs. fill_all f (trees (map tree_of xs))) (drop_all i parts c.loop-part-test.false))
