use Rattle.std.specs.Str.{chars}
use Rattle.template_faults.proofs.properties.lacking_property.Goals as goal

pub returns : goal.returns
unfolding chars
returns c = c.missing.ensures
