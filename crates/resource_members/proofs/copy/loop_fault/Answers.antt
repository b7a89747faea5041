use Rattle.std.specs.Str.{chars}
use Rattle.resource_members.proofs.copy.loop_fault.Goals as goal

pub returns : goal.returns
unfolding chars
returns c = c.object_fault.ensures
