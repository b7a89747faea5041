use Rattle.std.proofs.Common.{sym, subst}
use Rattle.arm_expr.specs.Print.{HasNames}
use Rattle.arm_expr.specs.View.{tree_of}
use Rattle.arm_expr.proofs.NameLemmas.{names-Int, names-Index}
use Rattle.language_tests.proofs.limits.indexed.Goals as goal

pub loop-init : goal.loop-init
loop-init c = names-Int _

pub loop-preserved : goal.loop-preserved
loop-preserved c =
    names-Index c.in_ok-base.base c.in_ok-new.field-0
    (subst (λ x. HasNames (tree_of x)) (sym c.in_ok-base.ensures.ok) c.loop.invariant)
    (subst (λ x. HasNames (tree_of x)) (sym c.in_ok-new.ensures.ok) (names-Int _))
