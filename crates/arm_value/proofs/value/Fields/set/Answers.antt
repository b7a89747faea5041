use Rattle.std.proofs.Common.{chars, subst}
use Rattle.arm_value.specs.Json.{IsInOrder}
use Rattle.arm_value.specs.View.{json}
use Rattle.arm_value.proofs.SetLemmas.{in_order}
use Rattle.arm_value.proofs.value.Fields.set.Goals as goal

pub insert-requires-clause-ordered : goal.insert-requires-clause-ordered
insert-requires-clause-ordered c =
    let k = chars c.args.name.now in
    let there = rw (c.in-Err.is, c.as_slice.ensures.members) at c.place-place.ensures in
    subst IsInOrder (there.1 (json c.args.value))
    (in_order k (json c.args.value) c.args.self.now c.as_slice.ensures.rules.0)
