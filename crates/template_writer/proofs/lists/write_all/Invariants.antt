use Rattle.std.proofs.Common.{◌≡◌, take, map}
use Rattle.template_writer.proofs.lists.write_all.Given as goal

abbrev pub invariant-loop-part : goal.invariant-loop-part
invariant-loop-part g l = l.members ≡ map g.T.Written.member_of (take l.part-index l.part-items)
