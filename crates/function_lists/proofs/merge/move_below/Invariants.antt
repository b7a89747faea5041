use Rattle.std.proofs.Common.{◌≡◌, ◌++◌, map}
use Rattle.arm_value.specs.View.{member}
use Rattle.function_lists.specs.Merge.{below, from}
use Rattle.function_lists.proofs.merge.move_below.Given as goal

abbrev pub decreases-loop-fields : goal.decreases-loop-fields
decreases-loop-fields l = l.fields.len

-- what is moved with what is still to be moved, and what stays
abbrev pub invariant-loop-fields : goal.invariant-loop-fields
invariant-loop-fields l = record {
  moved : map member l.members.items ++ below l.name (map member l.fields.items) ≡ map member l.fn.members.items
      ++ below l.name (map member l.fn.fields.items);
  left : from l.name (map member l.fields.items) ≡ from l.name (map member l.fn.fields.items);
}
