use Rattle.std.specs.Str.{chars}
use Rattle.template_faults.proofs.header.lacking_member.Goals as goal

pub returns : goal.returns
unfolding chars
returns c = c.missing.ensures
