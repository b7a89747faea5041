use Rattle.std.proofs.Common.{◌≡◌, drop, map}
use Rattle.arm_value.specs.View.{json}
use Rattle.function_lists.specs.Items.{is_among}
use Rattle.function_lists.proofs.items.is_among.Given as goal

abbrev pub invariant-loop-item : goal.invariant-loop-item
invariant-loop-item l = is_among (map json (drop l.item-index l.items)) (json l.value) ≡ is_among (map json l.items)
    (json l.value)
