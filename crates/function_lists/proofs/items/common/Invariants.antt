use Rattle.std.proofs.Common.{◌≡◌, drop, map}
use Rattle.std.specs.List.{list_all, filter}
use Rattle.arm_value.specs.View.{json}
use Rattle.function_lists.specs.Items.{is_item_of}
use Rattle.function_lists.proofs.items.common.Given as goal

-- those of the values so far that are in the arrays that are left
abbrev pub invariant-loop-array : goal.invariant-loop-array
invariant-loop-array l = filter (λ j. list_all (is_item_of j) (map json (drop l.array-index l.arrays)))
    (map json l.all.items) ≡ filter (λ j. list_all (is_item_of j) (map json l.arrays)) (map json l.fn.values.items)
