use Rattle.std.proofs.Common.{ℕ, List, map, drop}
use Rattle.arm_expr.specs.Tree.{Tree, text, trees, more}
use Rattle.emitted_parts.specs.Emitted.{Frame}
use Rattle.emission_laws.specs.Holes.{fill}
use Rattle.emitted_sizes.specs.Extent.{IsOf, Begins}
use Rattle.kept_expressions.specs.Spans.{IsSpan}
use Rattle.kept_expressions.specs.Kept.{AreKeptHoles}
use Rattle.kept_parts.proofs.ids.parts_extent.Given as goal

-- the parts so far, and those that are left
abbrev pub invariant-loop-part : goal.invariant-loop-part
invariant-loop-part l =
    (k : List ℕ) (ts : List Tree) (f : Frame) → IsOf (text k) l.fn.kind → AreKeptHoles ts l.parts → IsSpan f l.span
    → Begins l.row (trees (map (fill f) (drop l.part-index ts))) (more (text k) (trees (map (fill f) ts)))
