use Rattle.std.proofs.Common.{pos, refl}
use Rattle.arm_expr.specs.Tree.{int}
use Rattle.emitted_declarations.specs.Declared.{split_name}
use Rattle.kept_parts.proofs.pieces.piece_of.Goals as goal

pub returns-in-Segment : goal.returns-in-Segment
returns-in-Segment c = λ a i.
    rw c.in-Segment.is
    (c.plain_part.ensures (split_name a) (int (pos c.in-Segment.number)) (c.split_of-split.ensures a i)
    c.number_of.ensures)

pub returns-in-Rest : goal.returns-in-Rest
returns-in-Rest c = λ a i.
    rw c.in-Rest.is
    (c.call_two.ensures refl _ _
    (c.call_two-skipped.ensures refl (split_name a) (int (pos c.in-Rest.number)) (c.split_of-split.ensures a i)
    c.number_of-in-Rest.ensures)
    (c.word.ensures refl))
