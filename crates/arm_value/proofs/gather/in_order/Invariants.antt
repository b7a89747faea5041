use Rattle.std.proofs.Common.{◌≡◌, ◌≤◌, ◌++◌, map}
use Rattle.arm_value.specs.Json.{members_nesting}
use Rattle.arm_value.specs.View.{entry}
use Rattle.arm_value.proofs.gather.in_order.Given as goal

abbrev pub invariant-loop-name : goal.invariant-loop-name
invariant-loop-name l = record {
  all : map entry l.fn.sorted.entries ≡ l.fields ++ map entry l.name-iterator;
  nests : members_nesting (map entry l.name-iterator) ≤ 119;
}
