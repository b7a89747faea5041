use Rattle.std.proofs.Common.{codes, refl}
use Rattle.emitted_sizes.proofs.operators.lowered.Goals as goal

pub returns : goal.returns
returns c =
    λ a i. c.call_one.ensures (codes "toLower") a refl i
