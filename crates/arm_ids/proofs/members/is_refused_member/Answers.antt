use Rattle.std.specs.Str.{chars}
use Rattle.arm_ids.specs.Members.{is_refused_member}
use Rattle.arm_ids.proofs.members.is_refused_member.Goals as goal

pub returns : goal.returns
unfolding is_refused_member chars
returns c = c.is_among.ensures
