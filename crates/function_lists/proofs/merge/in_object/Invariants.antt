use Rattle.std.proofs.Common.{◌≡◌, ◌++◌, map}
use Rattle.std.specs.Vec.Iter.{into_iter_items}
use Rattle.arm_value.specs.View.{member}
use Rattle.function_lists.proofs.merge.in_object.Given as goal

-- the members so far and those that are left are all
abbrev pub invariant-loop-field : goal.invariant-loop-field
invariant-loop-field l = map member l.fn.members.items ≡ l.fields ++ map member (into_iter_items l.field-iterator)
