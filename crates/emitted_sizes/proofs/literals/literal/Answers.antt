use Rattle.std.proofs.Common.{codes, refl}
use Rattle.emitted_sizes.proofs.literals.literal.Goals as goal

pub returns-in-True : goal.returns-in-True
returns-in-True c = rw c.in-True.is (c.call_none.ensures (codes "true") refl)

pub returns-in-False : goal.returns-in-False
returns-in-False c = rw c.in-False.is (c.call_none-in-False.ensures (codes "false") refl)

pub returns-in-Null : goal.returns-in-Null
returns-in-Null c = rw c.in-Null.is (c.call_none-in-Null.ensures (codes "null") refl)
