use Rattle.std.proofs.lemmas.Str.{encodes-chars}
use Rattle.arm_value.proofs.set.compare.Goals as goal

pub returns : goal.returns
returns c = rw (encodes-chars c.args.name.now c.utf8.name, ← c.as_str.ensures.bytes) c.cmp.ensures
