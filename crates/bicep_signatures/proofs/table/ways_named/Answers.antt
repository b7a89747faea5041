use Rattle.std.specs.Str.{chars}
use Rattle.bicep_signatures.specs.Table.{table}
use Rattle.bicep_signatures.proofs.table.ways_named.Goals as goal

pub returns : goal.returns
unfolding chars table
returns c = c.find.ensures
