use Rattle.std.proofs.Common.{◌≡◌, ◌++◌, drop, map, option_map}
use Rattle.arm_value.specs.View.{json}
use Rattle.function_lists.specs.Items.{joined}
use Rattle.function_lists.proofs.items.joined.Given as goal

-- the items so far and those of the arrays that are left
abbrev pub invariant-loop-array : goal.invariant-loop-array
invariant-loop-array l =
    option_map (λ rest. map json l.all.items ++ rest) (joined (map json (drop l.array-index l.arrays)))
    ≡ joined (map json l.arrays)
