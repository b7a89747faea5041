use Rattle.std.proofs.Common.{◌≡◌, nat_le, map, drop}
use Rattle.arm_expr.specs.Tree.{deepest, trees}
use Rattle.arm_expr.specs.View.{tree_of}
use Rattle.arm_expr.proofs.nesting.+nests.Given as goal

-- those that are left nest within the limit where all do
abbrev pub invariant-are_within-loop-e : goal.invariant-are_within-loop-e
invariant-are_within-loop-e l =
    nat_le (deepest (trees (map tree_of (drop l.e-index l.es)))) l.limit ≡ nat_le (deepest (trees (map tree_of l.es)))
    l.limit
