use Rattle.std.proofs.Common.{◌≡◌, drop, map, max}
use Rattle.arm_value.specs.Json.{members_nesting}
use Rattle.arm_value.specs.View.{member}
use Rattle.arm_value.proofs.set.deepest_member.Given as goal

abbrev pub invariant-loop-field : goal.invariant-loop-field
invariant-loop-field l =
    members_nesting (map member l.fields) ≡ max l.depth (members_nesting (map member (drop l.field-index l.fields)))
