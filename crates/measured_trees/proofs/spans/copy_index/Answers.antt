use Rattle.std.proofs.Common.{codes, option_map, refl, sym, subst}
use Rattle.arm_expr.specs.Tree.{text}
use Rattle.emitted_sizes.specs.Extent.{IsOf}
use Rattle.tree_building.specs.EmittedTrees.{copy_index}
use Rattle.measured_trees.proofs.spans.copy_index.Goals as goal

pub returns-in-Some : goal.returns-in-Some
returns-in-Some c =
    subst (λ o. IsOf (copy_index (option_map (λ t. t.now) o)) c.call_one.result) (sym c.in-Some.is)
    (c.call_one.ensures (codes "copyIndex") (text c.in-Some.name.now) refl c.text.ensures)

pub returns-in-None : goal.returns-in-None
returns-in-None c =
    subst (λ o. IsOf (copy_index (option_map (λ t. t.now) o)) c.call_none.result) (sym c.in-None.is)
    (c.call_none.ensures (codes "copyIndex") refl)
