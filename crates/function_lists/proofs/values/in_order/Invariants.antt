use Rattle.std.proofs.Common.{◌≡◌, ◌++◌, map}
use Rattle.arm_value.specs.View.{entry, member}
use Rattle.function_lists.proofs.values.in_order.Given as goal

-- the members so far and the entries that are left are all
abbrev pub invariant-loop-name : goal.invariant-loop-name
invariant-loop-name l = map entry l.fn.sorted.entries ≡ map member l.members.items ++ map entry l.name-iterator
