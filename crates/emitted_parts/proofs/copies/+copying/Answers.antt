use Rattle.std.proofs.Common.{◌+◌, ap, map, drop}
use Rattle.std.proofs.lemmas.List.{drop_all}
use Rattle.arm_expr.specs.Tree.{trees}
use Rattle.arm_expr.specs.View.{tree_of}
use Rattle.emitted_parts.proofs.BuiltLemmas.{grown, all_grown}
use Rattle.emitted_parts.proofs.copies.+copying.Goals as goal
use Rattle.foundation.proofs.Lists.{next_item}

pub all_copied-loop-item-preserved : goal.all_copied-loop-item-preserved
all_copied-loop-item-preserved t c =
    let items = c.args.items.now in
    let i = c.loop-item.item-index in
    grown c.loop-item.all c.in-Ok.more c.copied.result (tree_of c.item-item.result)
    (trees (map tree_of (drop i items))) (trees (map tree_of (drop (i + 1) items))) (trees (map tree_of items))
    c.in-Ok.ensures c.copied.ensures c.loop-item.invariant
    (ap (λ xs. trees (map tree_of xs)) (next_item items i c.item-item.result c.loop-item-test.true c.item-item.is))

pub all_copied-returns : goal.all_copied-returns
all_copied-returns t c =
    let items = c.args.items.now in
    let i = c.loop-item.item-index in
    all_grown c.loop-item.all (trees (map tree_of (drop i items))) (trees (map tree_of items)) c.loop-item.invariant
    (ap (λ xs. trees (map tree_of xs)) (drop_all i items c.loop-item-test.false))
