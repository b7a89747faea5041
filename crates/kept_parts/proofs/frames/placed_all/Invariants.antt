use Rattle.std.proofs.Common.{List, map, take}
use Rattle.arm_expr.specs.Tree.{Tree}
use Rattle.emitted_parts.specs.Emitted.{Frame}
use Rattle.emission_laws.specs.Holes.{fill}
use Rattle.kept_expressions.specs.Kept.{AreKeptHoles}
use Rattle.kept_parts.specs.Frames.{IsKeptFrame}
use Rattle.kept_parts.proofs.frames.placed_all.Given as goal

-- the first parts
abbrev pub invariant-loop-part : goal.invariant-loop-part
invariant-loop-part l =
    (ts : List Tree) (g : Frame) → AreKeptHoles ts l.parts → IsKeptFrame g l.frame
    → AreKeptHoles (map (fill g) (take l.part-index ts)) l.all.items
