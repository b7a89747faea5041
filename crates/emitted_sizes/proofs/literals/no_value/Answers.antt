use Rattle.std.proofs.Common.{codes, refl}
use Rattle.emitted_sizes.proofs.literals.no_value.Goals as goal

pub returns : goal.returns
returns c =
    c.call_none.ensures (codes "add") refl
