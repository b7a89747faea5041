use Rattle.std.proofs.Common.{◌≡◌, ◌+◌, ◌*◌, drop, map}
use Rattle.arm_value.specs.Json.{nesting, items_nesting, members_nesting, row, pairs}
use Rattle.arm_value.specs.View.{json, member}
use Rattle.arm_value.specs.Same.{is_same_row, is_same_pairs}
use Rattle.arm_value.proofs.same.+same.Given as goal

abbrev pub decreases-members_are_same : goal.decreases-members_are_same
decreases-members_are_same l = 2 * members_nesting l.one.now + 1

abbrev pub decreases-items_are_same : goal.decreases-items_are_same
decreases-items_are_same l = 2 * items_nesting l.one.now + 1

abbrev pub decreases-are_same : goal.decreases-are_same
decreases-are_same l = 2 * nesting (json l.one.now)

abbrev pub invariant-items_are_same-loop-i : goal.invariant-items_are_same-loop-i
invariant-items_are_same-loop-i l =
    is_same_row (row l.one) (row l.other) ≡ is_same_row (row (map json (drop l.i l.a))) (row (map json (drop l.i l.b)))

abbrev pub invariant-members_are_same-loop-i : goal.invariant-members_are_same-loop-i
invariant-members_are_same-loop-i l =
    is_same_pairs (pairs l.one) (pairs l.other) ≡ is_same_pairs (pairs (map member (drop l.i l.a)))
    (pairs (map member (drop l.i l.b)))
