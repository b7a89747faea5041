use Rattle.std.specs.Str.{chars}
use Rattle.template_members.proofs.loops.loop_fault.Goals as goal

pub returns : goal.returns
unfolding chars
returns c = c.object_fault.ensures
