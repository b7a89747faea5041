use Rattle.std.proofs.Common.{◌≡◌, ◌++◌, drop, map}
use Rattle.arm_value.specs.View.{json}
use Rattle.function_lists.proofs.items.add_copies.Given as goal

-- what is in the list, and what is left
abbrev pub invariant-loop-value : goal.invariant-loop-value
invariant-loop-value l = map json l.list.items ++ map json (drop l.value-index l.values) ≡ map json l.fn.list.items
    ++ map json l.values
