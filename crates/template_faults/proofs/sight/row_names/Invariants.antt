use Rattle.std.proofs.Common.{◌≡◌, drop, map}
use Rattle.arm_value.specs.Json.{row}
use Rattle.arm_value.specs.View.{json}
use Rattle.template_faults.specs.Sights.{row_names}
use Rattle.template_faults.proofs.sight.row_names.Given as goal

abbrev pub invariant-loop-item : goal.invariant-loop-item
invariant-loop-item l =
    row_names l.fn.names (row (map json l.item-items))
    ≡ row_names l.all (row (map json (drop l.item-index l.item-items)))
