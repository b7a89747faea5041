use Rattle.std.specs.Str.{chars}
use Rattle.bicep_names.specs.Functions.{reserved}
use Rattle.bicep_names.proofs.functions.is_reserved.Goals as goal

pub returns : goal.returns
unfolding chars reserved
returns c = c.is_among.ensures
