use Rattle.std.proofs.Common.{◌≡◌, drop, map}
use Rattle.arm_value.specs.Json.{row}
use Rattle.arm_value.specs.View.{json}
use Rattle.template_parameters.specs.Rule.{row_is_listed}
use Rattle.template_parameters.proofs.rule.row_is_listed.Given as goal

abbrev pub invariant-loop-item : goal.invariant-loop-item
invariant-loop-item l =
    row_is_listed l.values (row (map json l.item-items))
    ≡ row_is_listed l.values (row (map json (drop l.item-index l.item-items)))
