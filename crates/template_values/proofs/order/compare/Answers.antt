use Rattle.std.proofs.lemmas.Str.{encodes-chars}
use Rattle.template_values.proofs.order.compare.Goals as goal

pub returns : goal.returns
returns c = rw (encodes-chars c.args.name.now c.utf8.name, ← c.as_str.ensures.bytes) c.cmp.ensures
