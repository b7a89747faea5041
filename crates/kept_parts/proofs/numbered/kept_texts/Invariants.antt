use Rattle.std.proofs.Common.{map, take}
use Rattle.arm_expr.specs.Tree.{text}
use Rattle.kept_expressions.specs.Kept.{AreKeptHoles}
use Rattle.kept_parts.proofs.numbered.kept_texts.Given as goal

-- the first texts
abbrev pub invariant-loop-text : goal.invariant-loop-text
invariant-loop-text l = AreKeptHoles (map text (take l.text-index l.texts)) l.all.items
