use Rattle.std.proofs.Common.{◌≡◌, ◌+◌, ◌*◌, [], drop, map}
use Rattle.arm_value.specs.Json.{nesting, items_nesting, members_nesting, row, pairs, keys}
use Rattle.arm_value.specs.View.{json, member}
use Rattle.template_values.specs.Values.{items_fault, members_fault, loops_fault, parts_fault}
use Rattle.template_values.proofs.value.+fault.Given as goal

abbrev pub decreases-value_fault : goal.decreases-value_fault
decreases-value_fault l = 10 * nesting (json l.value.now)

abbrev pub decreases-items_fault : goal.decreases-items_fault
decreases-items_fault l = 10 * items_nesting l.items.now + 1

abbrev pub decreases-fields_fault : goal.decreases-fields_fault
decreases-fields_fault l = 10 * members_nesting l.fields.now + 9

abbrev pub decreases-member_fault : goal.decreases-member_fault
decreases-member_fault l = 10 * nesting (json l.field.now.value) + 8

abbrev pub decreases-copy_fault : goal.decreases-copy_fault
decreases-copy_fault l = 10 * nesting (json l.value.now) + 7

abbrev pub decreases-loops_fault : goal.decreases-loops_fault
decreases-loops_fault l = 10 * items_nesting l.items.now + 6

abbrev pub decreases-loop_fault : goal.decreases-loop_fault
decreases-loop_fault l = 10 * nesting (json l.value.now) + 5

abbrev pub decreases-parts_fault : goal.decreases-parts_fault
decreases-parts_fault l = 10 * members_nesting l.fields.now + 4

abbrev pub decreases-loop_member_fault : goal.decreases-loop_member_fault
decreases-loop_member_fault l = 10 * nesting (json l.field.now.value) + 3

abbrev pub invariant-items_fault-loop-i : goal.invariant-items_fault-loop-i
invariant-items_fault-loop-i l =
    items_fault l.here l.place 0 (row (map json l.item-items))
    ≡ items_fault l.here l.place l.i (row (map json (drop l.i l.item-items)))

abbrev pub invariant-fields_fault-loop-field : goal.invariant-fields_fault-loop-field
invariant-fields_fault-loop-field l =
    members_fault l.here l.place (keys l.fields) (pairs (map member l.field-items))
    ≡ members_fault l.here l.place (keys l.fields) (pairs (map member (drop l.field-index l.field-items)))

abbrev pub invariant-loops_fault-loop-i : goal.invariant-loops_fault-loop-i
invariant-loops_fault-loop-i l =
    loops_fault l.here l.place l.fn.names 0 (row (map json l.item-items))
    ≡ loops_fault l.here l.place l.taken l.i (row (map json (drop l.i l.item-items)))

abbrev pub invariant-parts_fault-loop-field : goal.invariant-parts_fault-loop-field
invariant-parts_fault-loop-field l =
    parts_fault l.here l.place l.names [] (pairs (map member l.field-items))
    ≡ parts_fault l.here l.place l.names l.seen (pairs (map member (drop l.field-index l.field-items)))
