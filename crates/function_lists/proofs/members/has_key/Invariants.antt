use Rattle.std.proofs.Common.{◌≡◌, drop, map}
use Rattle.arm_value.specs.View.{member}
use Rattle.function_lists.specs.Members.{has_key}
use Rattle.function_lists.proofs.members.has_key.Given as goal

abbrev pub invariant-loop-field : goal.invariant-loop-field
invariant-loop-field l = has_key l.name (map member (drop l.field-index l.field-items)) ≡ has_key l.name l.fields
