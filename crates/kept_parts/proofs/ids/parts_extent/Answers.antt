use Rattle.std.proofs.Common.{◌+◌, map, drop, subst}
use Rattle.arm_expr.specs.Tree.{text, trees, more}
use Rattle.emission_laws.specs.Holes.{fill}
use Rattle.emitted_sizes.specs.Extent.{Begins}
use Rattle.kept_parts.proofs.ListLemmas.{kept_at, kept_done}
use Rattle.kept_parts.proofs.ids.parts_extent.Goals as goal

pub loop-part-init : goal.loop-part-init
loop-part-init c = λ k ts f h i s.
    let rest = trees (map (fill f) ts) in
    c.with-row.ensures (text k) rest (more (text k) rest) h (c.new.ensures (more (text k) rest))

pub loop-part-preserved : goal.loop-part-preserved
loop-part-preserved c = λ k ts f h i s.
    let at = kept_at ts c.args.parts.now c.loop-part.part-index c.part-item.result i c.loop-part-test.true
    c.part-item.is in
    let whole = more (text k) (trees (map (fill f) ts)) in
    c.with-row-in-loop-part.ensures (fill f at.tree) (trees (map (fill f) (drop (c.loop-part.part-index + 1) ts))) whole
    (c.filled.ensures at.tree f at.is_kept.grows s)
    (subst (λ us. Begins c.loop-part.row (trees (map (fill f) us)) whole) at.rest (c.loop-part.invariant k ts f h i s))

pub returns : goal.returns
returns c = λ k ts f h i s.
    let whole = more (text k) (trees (map (fill f) ts)) in
    c.end.ensures whole
    (subst (λ us. Begins c.loop-part.row (trees (map (fill f) us)) whole)
    (kept_done ts c.args.parts.now c.loop-part.part-index i c.loop-part-test.false)
    (c.loop-part.invariant k ts f h i s))
