use Rattle.std.proofs.Common.{pos, refl}
use Rattle.arm_expr.specs.Tree.{int}
use Rattle.arm_expr.proofs.ViewLemmas.{tree_of-Int}
use Rattle.measured_holes.specs.Holes.{item_hole, index_hole, holes}
use Rattle.emitted_expressions.proofs.FrameLemmas.{one_frame}
use Rattle.kept_expressions.proofs.filling.hole_turns.Goals as goal

pub returns : goal.returns
returns c =
    one_frame c.new.result holes c.turn_of.result c.with.result c.new.ensures.items c.with.ensures
    (c.turn_of.ensures item_hole index_hole (c.call_none.ensures refl)
    (c.call_one-index.ensures refl (int (pos 0)) (tree_of-Int (pos 0))))
