use Rattle.std.proofs.Common.{◌≡◌, ◌+◌, ◌*◌, ℕ, None, map, drop}
use Rattle.arm_value.specs.Json.{nesting, items_nesting, members_nesting, row, pairs}
use Rattle.arm_value.specs.View.{json, member}
use Rattle.arm_value.specs.Reading.{row_data, pairs_data, items_not_whole, members_not_whole}
use Rattle.function_prints.proofs.whole.+whole.Given as goal

abbrev pub decreases-has_whole_numbers : goal.decreases-has_whole_numbers
decreases-has_whole_numbers l = 2 * nesting (json l.value.now)

abbrev pub decreases-items_are_whole : goal.decreases-items_are_whole
decreases-items_are_whole l = 2 * items_nesting l.items.now + 1

abbrev pub decreases-fields_are_whole : goal.decreases-fields_are_whole
decreases-fields_are_whole l = 2 * members_nesting l.fields.now + 1

-- where the items that are left are whole, all are
abbrev pub invariant-items_are_whole-loop-item : goal.invariant-items_are_whole-loop-item
invariant-items_are_whole-loop-item l =
    ((i : ℕ) → items_not_whole i (row_data (row (map json (drop l.item-index l.item-items)))) ≡ None)
    → (i : ℕ) → items_not_whole i (row_data (row (map json l.item-items))) ≡ None

-- where the members that are left are whole, all are
abbrev pub invariant-fields_are_whole-loop-field : goal.invariant-fields_are_whole-loop-field
invariant-fields_are_whole-loop-field l =
    members_not_whole (pairs_data (pairs (map member (drop l.field-index l.field-items)))) ≡ None
    → members_not_whole (pairs_data (pairs (map member l.field-items))) ≡ None
