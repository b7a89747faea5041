use Rattle.std.proofs.Common.{codes, refl}
use Rattle.arm_expr.specs.Tree.{text}
use Rattle.kept_parts.proofs.pieces.split_extent.Goals as goal

pub returns : goal.returns
returns c = λ a i. c.call_two.ensures (codes "split") a (text (codes "/")) refl i (c.word.ensures refl)
