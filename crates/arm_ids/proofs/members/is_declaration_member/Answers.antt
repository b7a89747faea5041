use Rattle.std.specs.Str.{chars}
use Rattle.arm_ids.specs.Members.{is_declaration_member}
use Rattle.arm_ids.proofs.members.is_declaration_member.Goals as goal

pub returns : goal.returns
unfolding is_declaration_member chars
returns c = c.is_among.ensures
