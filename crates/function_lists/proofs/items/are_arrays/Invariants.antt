use Rattle.std.proofs.Common.{◌≡◌, drop, map}
use Rattle.std.specs.List.{list_all}
use Rattle.arm_value.specs.View.{json}
use Rattle.function_lists.proofs.items.are_arrays.Given as goal
use Rattle.arm_value.specs.Kinds.{is_array}

abbrev pub invariant-loop-value : goal.invariant-loop-value
invariant-loop-value l = list_all is_array (map json (drop l.value-index l.values)) ≡ list_all is_array
    (map json l.values)
