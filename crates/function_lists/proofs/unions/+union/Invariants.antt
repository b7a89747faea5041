use Rattle.std.proofs.Common.{◌≡◌, ◌+◌, ◌*◌, ◌++◌, drop, map}
use Rattle.arm_value.specs.Json.{nesting, members_nesting, pairs, IsInOrder}
use Rattle.arm_value.specs.View.{json, member}
use Rattle.function_lists.specs.Members.{united}
use Rattle.function_lists.proofs.MergeLemmas.{merged}
use Rattle.function_lists.proofs.unions.+union.Given as goal

abbrev pub decreases-united : goal.decreases-united
decreases-united l = 3 * members_nesting l.second.now + 2

abbrev pub decreases-add_united : goal.decreases-add_united
decreases-add_united l = 3 * nesting (json l.field.now.value) + 1

abbrev pub decreases-under : goal.decreases-under
decreases-under l = 3 * nesting (json l.second.now)

-- the members so far with what the rests of both make are all, and the rest of the first is in order
abbrev pub invariant-united-loop-field : goal.invariant-united-loop-field
invariant-united-loop-field l = record {
  all : map member l.members.items ++ merged (map member l.rest.items)
      (pairs (map member (drop l.field-index l.field-items))) ≡ united l.fn.first (pairs l.second);
  ordered : IsInOrder (map member l.rest.items);
}
