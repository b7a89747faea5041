use Rattle.std.proofs.Common.{codes, refl}
use Rattle.emitted_sizes.proofs.accesses.part.Goals as goal

pub returns-in-Safe : goal.returns-in-Safe
returns-in-Safe c = λ a i h k. rw c.in-Safe.is (c.call_two.ensures (codes "tryGet") a i refl h k)
