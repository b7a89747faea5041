use Rattle.std.proofs.Common.{◌≡◌, drop, map, chars}
use Rattle.arm_value.specs.Json.{pairs}
use Rattle.arm_value.specs.Look.{first_by, is_same_folded}
use Rattle.arm_value.specs.View.{member}
use Rattle.template_values.proofs.names.first_named.Given as goal

abbrev pub invariant-loop-field : goal.invariant-loop-field
invariant-loop-field l =
    first_by (is_same_folded (chars l.name)) (pairs (map member l.field-items))
    ≡ first_by (is_same_folded (chars l.name)) (pairs (map member (drop l.field-index l.field-items)))
