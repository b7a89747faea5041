use Rattle.std.proofs.Common.{arith}
use Rattle.template_members.proofs.plain.+plain.Goals as goal
use Rattle.arm_value.proofs.GatheredLemmas.{item_within, member_within}

pub items_plain_fault-plain_fault-requires : goal.items_plain_fault-plain_fault-requires
items_plain_fault-plain_fault-requires t c =
    let h = item_within c.as_slice-item-items.result.now c.args.items.now c.loop-i.i c.item-item.result
    c.as_slice-item-items.ensures.items c.loop-i-test.true c.item-item.is in
    (omega (arith, h, c.decreases), tt)

pub fields_plain_fault-plain_fault-requires : goal.fields_plain_fault-plain_fault-requires
fields_plain_fault-plain_fault-requires t c =
    let h = member_within c.as_slice-field-items.result.now c.args.fields.now c.loop-field.field-index
    c.field-item.result c.as_slice-field-items.ensures.members c.loop-field-test.true c.field-item.is in
    (omega (arith, h, c.decreases), tt)
