use Rattle.std.proofs.Common.{◌+◌, map, drop, ap}
use Rattle.arm_expr.specs.Tree.{text, trees, more}
use Rattle.emission_laws.specs.Holes.{fill}
use Rattle.emitted_parts.proofs.BuiltLemmas.{grown, all_grown}
use Rattle.kept_parts.proofs.ListLemmas.{kept_at, kept_done}
use Rattle.kept_parts.proofs.ids.parts_filled.Goals as goal

pub loop-part-preserved : goal.loop-part-preserved
loop-part-preserved c = λ ts f h p q.
    let i = c.loop-part.part-index in
    let at = kept_at ts c.args.parts.now i c.part-item.result h c.loop-part-test.true c.part-item.is in
    grown c.loop-part.all c.in-Ok.more c.filled.result (fill f at.tree) (trees (map (fill f) (drop i ts)))
    (trees (map (fill f) (drop (i + 1) ts))) (more (text c.args.kind.now) (trees (map (fill f) ts))) c.in-Ok.ensures
    (c.filled.ensures at.tree f at.is_kept p q) (c.loop-part.invariant ts f h p q)
    (ap (λ us. trees (map (fill f) us)) at.rest)

pub returns : goal.returns
returns c = λ ts f h p q.
    let i = c.loop-part.part-index in
    all_grown c.loop-part.all (trees (map (fill f) (drop i ts))) (more (text c.args.kind.now) (trees (map (fill f) ts)))
    (c.loop-part.invariant ts f h p q)
    (ap (λ us. trees (map (fill f) us)) (kept_done ts c.args.parts.now i h c.loop-part-test.false))
