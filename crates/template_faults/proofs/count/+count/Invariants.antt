use Rattle.std.proofs.Common.{◌≡◌, ◌+◌, ◌*◌, drop, map}
use Rattle.arm_value.specs.Json.{nesting, items_nesting, members_nesting, row, pairs}
use Rattle.arm_value.specs.View.{json, member}
use Rattle.template_faults.specs.Counts.{row_count, children_count}
use Rattle.template_faults.proofs.count.+count.Given as goal

abbrev pub decreases-array_count : goal.decreases-array_count
decreases-array_count l = 4 * nesting (json l.value.now)

abbrev pub decreases-row_count : goal.decreases-row_count
decreases-row_count l = 4 * items_nesting l.items.now + 3

abbrev pub decreases-tree_count : goal.decreases-tree_count
decreases-tree_count l = 4 * nesting (json l.value.now) + 2

abbrev pub decreases-children_count : goal.decreases-children_count
decreases-children_count l = 4 * members_nesting l.fields.now + 1

abbrev pub invariant-row_count-loop-item : goal.invariant-row_count-loop-item
invariant-row_count-loop-item l =
    row_count 0 (row (map json l.item-items)) ≡ row_count l.count (row (map json (drop l.item-index l.item-items)))

abbrev pub invariant-children_count-loop-field : goal.invariant-children_count-loop-field
invariant-children_count-loop-field l =
    children_count (pairs (map member l.field-items))
    ≡ children_count (pairs (map member (drop l.field-index l.field-items)))
