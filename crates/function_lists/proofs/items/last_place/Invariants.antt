use Rattle.std.proofs.Common.{◌≡◌, drop, map}
use Rattle.arm_value.specs.View.{json}
use Rattle.function_lists.specs.Items.{last_from, or_found}
use Rattle.function_lists.proofs.items.last_place.Given as goal

-- the last among those that are left, else what was found, is the last of all
abbrev pub invariant-loop-i : goal.invariant-loop-i
invariant-loop-i l = or_found (last_from l.i (json l.value) (map json (drop l.i l.items))) l.found
    ≡ last_from 0 (json l.value) (map json l.items)
