use Rattle.std.proofs.Common.{arith}
use Rattle.template_faults.proofs.count.+count.Goals as goal
use Rattle.arm_value.proofs.GatheredLemmas.{item_within, member_within}

pub row_count-tree_count-requires : goal.row_count-tree_count-requires
row_count-tree_count-requires t c =
    let h = item_within c.as_slice-item-items.result.now c.args.items.now c.loop-item.item-index c.item-item.result
    c.as_slice-item-items.ensures.items c.loop-item-test.true c.item-item.is in
    (omega (arith, h, c.decreases), tt)

pub children_count-array_count-requires : goal.children_count-array_count-requires
children_count-array_count-requires t c =
    let h = member_within c.as_slice-field-items.result.now c.args.fields.now c.loop-field.field-index
    c.field-item.result c.as_slice-field-items.ensures.members c.loop-field-test.true c.field-item.is in
    (omega (arith, h, c.decreases), tt)
