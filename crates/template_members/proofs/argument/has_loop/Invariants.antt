use Rattle.std.proofs.Common.{◌≡◌, drop, map}
use Rattle.arm_value.specs.Json.{pairs}
use Rattle.arm_value.specs.View.{member}
use Rattle.template_members.specs.Arguments.{pairs_loop}
use Rattle.template_members.proofs.argument.has_loop.Given as goal

abbrev pub invariant-loop-field : goal.invariant-loop-field
invariant-loop-field l =
    pairs_loop (pairs (map member l.field-items)) ≡ pairs_loop (pairs (map member (drop l.field-index l.field-items)))
