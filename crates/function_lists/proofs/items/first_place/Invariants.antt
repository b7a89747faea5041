use Rattle.std.proofs.Common.{◌≡◌, drop, map}
use Rattle.arm_value.specs.View.{json}
use Rattle.function_lists.specs.Items.{first_from}
use Rattle.function_lists.proofs.items.first_place.Given as goal

-- the first among those that are left is the first of all
abbrev pub invariant-loop-i : goal.invariant-loop-i
invariant-loop-i l = first_from l.i (json l.value) (map json (drop l.i l.items)) ≡ first_from 0 (json l.value)
    (map json l.items)
