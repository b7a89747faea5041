use Rattle.std.proofs.Common.{pos, codes, refl}
use Rattle.arm_expr.specs.Tree.{text, int, call}
use Rattle.emitted_parts.specs.Emitted.{two}
use Rattle.emitted_declarations.specs.Declared.{split_name}
use Rattle.kept_parts.proofs.pieces.piece_extent.Goals as goal

pub returns-in-Segment : goal.returns-in-Segment
returns-in-Segment c = λ a i.
    rw c.in-Segment.is
    (c.plain_part.ensures (split_name a) (int (pos c.in-Segment.number)) (c.split_extent-split.ensures a i)
    c.number_extent.ensures)

pub returns-in-Rest : goal.returns-in-Rest
returns-in-Rest c = λ a i.
    rw c.in-Rest.is
    (c.call_two.ensures (codes "join") (call (codes "skip") (two (split_name a) (int (pos c.in-Rest.number))))
    (text (codes "/")) refl
    (c.call_two-skipped.ensures (codes "skip") (split_name a) (int (pos c.in-Rest.number)) refl
    (c.split_extent-split.ensures a i) c.number_extent-in-Rest.ensures)
    (c.word.ensures refl))
