use Rattle.std.proofs.Common.{◌≡◌, drop, map, chars}
use Rattle.arm_value.specs.Json.{pairs}
use Rattle.template_values.specs.Order.{missing}
use Rattle.template_values.proofs.order.missing.Given as goal

abbrev pub invariant-loop-name : goal.invariant-loop-name
invariant-loop-name l =
    missing (map (λ n. chars n.now) l.names) (pairs l.fields)
    ≡ missing (map (λ n. chars n.now) (drop l.name-index l.names)) (pairs l.fields)
