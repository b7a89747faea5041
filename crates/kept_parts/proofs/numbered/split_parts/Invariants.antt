use Rattle.arm_expr.specs.Tree.{Tree}
use Rattle.kept_expressions.specs.Kept.{IsKeptHoles, AreKeptHoles}
use Rattle.kept_parts.specs.Pieces.{segments_at}
use Rattle.kept_parts.proofs.numbered.split_parts.Given as goal

-- the first segments
abbrev pub invariant-loop-number : goal.invariant-loop-number
invariant-loop-number l = (a : Tree) → IsKeptHoles a l.own → AreKeptHoles (segments_at a 0 l.number) l.all.items
