use Rattle.std.proofs.Common.{◌≡◌, [], drop, map}
use Rattle.arm_value.specs.Json.{pairs}
use Rattle.arm_value.specs.View.{member}
use Rattle.template_members.specs.Objects.{faulty_by}
use Rattle.template_members.proofs.object.first_faulty.Given as goal

abbrev pub invariant-loop-field : goal.invariant-loop-field
invariant-loop-field g l =
    faulty_by (g.R.MemberRule.single l.rule) (g.R.MemberRule.fault l.rule l.here) [] (pairs (map member l.field-items))
    ≡ faulty_by (g.R.MemberRule.single l.rule) (g.R.MemberRule.fault l.rule l.here) l.seen
    (pairs (map member (drop l.field-index l.field-items)))
