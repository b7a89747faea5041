use Rattle.std.proofs.Common.{◌≡◌, map, drop}
use Rattle.arm_expr.specs.Tree.{trees}
use Rattle.arm_expr.specs.View.{tree_of}
use Rattle.emitted_parts.proofs.BuiltLemmas.{onto}
use Rattle.emitted_parts.proofs.copies.+copying.Given as goal

-- the copies so far, and what is left
abbrev pub invariant-all_copied-loop-item : goal.invariant-all_copied-loop-item
invariant-all_copied-loop-item l =
    onto (map tree_of l.all.items) (trees (map tree_of (drop l.item-index l.items))) ≡ trees (map tree_of l.items)
