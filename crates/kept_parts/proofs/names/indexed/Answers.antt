use Rattle.std.proofs.Common.{pos, codes, refl, ap, sym, ◌∙◌}
use Rattle.arm_expr.specs.Tree.{text, int, call}
use Rattle.arm_expr.proofs.ViewLemmas.{tree_of-Int}
use Rattle.emitted_parts.specs.Emitted.{two}
use Rattle.emission_laws.specs.Holes.{index_hole}
use Rattle.kept_expressions.specs.Limits.{is_within}
use Rattle.kept_parts.proofs.names.indexed.Goals as goal

pub returns-then-not-is_within : goal.returns-then-not-is_within
returns-then-not-is_within c =
    c.beyond_holes.ensures (call (codes "format") (two (text c.args.format.now) index_hole))
    (c.in_ok-holed.ensures c.args.format.now c.text.ensures)
    (sym (ap is_within c.least_extent.ensures) ∙ sym c.is_within.ensures ∙ c.if-not-is_within.true)

pub returns : goal.returns
returns c =
    c.keep_holes.ensures (call (codes "format") (two (text c.args.format.now) index_hole))
    (c.in_ok-holed.ensures c.args.format.now c.text.ensures)
    (sym (ap is_within c.least_extent.ensures) ∙ sym c.is_within.ensures ∙ c.if-not-is_within.false)
    (c.call_two.ensures refl (text c.args.format.now) index_hole c.text-2.ensures
    (c.call_one-index.ensures refl (int (pos 0)) (tree_of-Int (pos 0))))
