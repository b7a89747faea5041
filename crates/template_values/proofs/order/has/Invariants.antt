use Rattle.std.proofs.Common.{◌≡◌, drop, map, chars}
use Rattle.arm_value.specs.Json.{pairs}
use Rattle.arm_value.specs.View.{member}
use Rattle.template_values.specs.Order.{has}
use Rattle.template_values.proofs.order.has.Given as goal

abbrev pub invariant-loop-field : goal.invariant-loop-field
invariant-loop-field l =
    has (chars l.name) (pairs (map member l.field-items))
    ≡ has (chars l.name) (pairs (map member (drop l.field-index l.field-items)))
