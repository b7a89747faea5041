use Rattle.std.proofs.Common.{codes, refl}
use Rattle.emitted_sizes.proofs.operators.negated.Goals as goal

pub returns : goal.returns
returns c =
    λ a i. c.call_one.ensures (codes "not") a refl i
