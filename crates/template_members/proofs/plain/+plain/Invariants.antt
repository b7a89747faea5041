use Rattle.std.proofs.Common.{◌≡◌, ◌+◌, ◌*◌, drop, map}
use Rattle.arm_value.specs.Json.{nesting, items_nesting, members_nesting, row, pairs}
use Rattle.arm_value.specs.View.{json, member}
use Rattle.template_members.specs.Parameters.{row_plain_fault, pairs_plain_fault}
use Rattle.template_members.proofs.plain.+plain.Given as goal

abbrev pub decreases-plain_fault : goal.decreases-plain_fault
decreases-plain_fault l = 2 * nesting (json l.value.now)

abbrev pub decreases-items_plain_fault : goal.decreases-items_plain_fault
decreases-items_plain_fault l = 2 * items_nesting l.items.now + 1

abbrev pub decreases-fields_plain_fault : goal.decreases-fields_plain_fault
decreases-fields_plain_fault l = 2 * members_nesting l.fields.now + 1

abbrev pub invariant-items_plain_fault-loop-i : goal.invariant-items_plain_fault-loop-i
invariant-items_plain_fault-loop-i l =
    row_plain_fault 0 (row (map json l.item-items)) ≡ row_plain_fault l.i (row (map json (drop l.i l.item-items)))

abbrev pub invariant-fields_plain_fault-loop-field : goal.invariant-fields_plain_fault-loop-field
invariant-fields_plain_fault-loop-field l =
    pairs_plain_fault (pairs (map member l.field-items))
    ≡ pairs_plain_fault (pairs (map member (drop l.field-index l.field-items)))
