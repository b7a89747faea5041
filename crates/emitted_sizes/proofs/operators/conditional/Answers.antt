use Rattle.std.proofs.Common.{codes, refl}
use Rattle.emitted_sizes.proofs.operators.conditional.Goals as goal

pub returns : goal.returns
returns c =
    λ q a b h i j. c.call_three.ensures (codes "if") q a b refl h i j
