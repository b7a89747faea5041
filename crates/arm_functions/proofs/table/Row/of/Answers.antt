use Rattle.std.specs.Str.{chars}
use Rattle.arm_functions.specs.Table.{table}
use Rattle.arm_functions.proofs.table.Row.of.Goals as goal

pub returns-clause-row : goal.returns-clause-row
unfolding chars table
returns-clause-row c = c.find.ensures.row
