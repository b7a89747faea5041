use Rattle.std.proofs.Common.{arith, refl}
use Rattle.arm_expr.proofs.PrintLemmas.{length-whole}
use Rattle.arm_expr.specs.View.{tree_of}
use Rattle.arm_expr.proofs.printer.is_too_long.Goals as goal

pub returns-in-None : goal.returns-in-None
returns-in-None c = (λ _. omega (arith, length-whole (tree_of c.args.e.now), c.in-None.ensures), λ _. refl)

pub returns-in-Some : goal.returns-in-Some
returns-in-Some c =
    (λ h. absurd (cc), λ h. absurd (omega (arith, length-whole (tree_of c.args.e.now), c.in-Some.ensures)))
