use Rattle.std.proofs.Common.{sym, ◌∙◌}
use Rattle.arm_expr.specs.Tree.{trees}
use Rattle.arm_expr.specs.View.{tree_of}
use Rattle.std.proofs.Common.{map}
use Rattle.measured_holes.specs.Holes.{in_hole}
use Rattle.emitted_parts.proofs.BuiltLemmas.{is_also}
use Rattle.kept_expressions.proofs.FillingLemmas.{item_in, index_in}
use Rattle.kept_expressions.proofs.filling.hole.Goals as goal

pub returns-then-is_empty : goal.returns-then-is_empty
returns-then-is_empty c = λ f p q.
    is_also f.item (in_hole f (trees (map tree_of c.args.arguments.now))) c.put.result
    (item_in f c.args.arguments.now (sym c.is_empty.ensures ∙ c.if-is_empty.true)) (c.put.ensures f.item p)

pub returns-else-is_empty : goal.returns-else-is_empty
returns-else-is_empty c = λ f p q.
    is_also f.index (in_hole f (trees (map tree_of c.args.arguments.now))) c.put-else-is_empty.result
    (index_in f c.args.arguments.now (sym c.is_empty.ensures ∙ c.if-is_empty.false))
    (c.put-else-is_empty.ensures f.index q)
