use Rattle.std.proofs.Common.{arith, add-one}
use Rattle.arm_value.proofs.GatheredLemmas.{item_within, member_within}
use Rattle.read_backs.proofs.WalkLemmas.{values_more, fields_more}
use Rattle.read_backs.proofs.walking.+characters.Goals as goal

pub know_fields-know_characters-requires : goal.know_fields-know_characters-requires
know_fields-know_characters-requires t c =
    let h = member_within c.as_slice-field-items.result.now c.args.fields.now c.loop-field.field-index
    c.field-item.result c.as_slice-field-items.ensures.members c.loop-field-test.true c.field-item.is in
    (omega (arith, h, c.decreases), tt)

pub know_fields-loop-field-preserved : goal.know_fields-loop-field-preserved
know_fields-loop-field-preserved t c =
    rw add-one
    (fields_more c.as_slice-field-items.result.now c.loop-field.field-index c.field-item.result c.loop-field-test.true
    c.field-item.is c.know_text.ensures c.know_characters.ensures c.loop-field.invariant)

pub know_items-know_characters-requires : goal.know_items-know_characters-requires
know_items-know_characters-requires t c =
    let h = item_within c.as_slice-item-items.result.now c.args.items.now c.loop-item.item-index
    c.item-item.result c.as_slice-item-items.ensures.items c.loop-item-test.true c.item-item.is in
    (omega (arith, h, c.decreases), tt)

pub know_items-loop-item-preserved : goal.know_items-loop-item-preserved
know_items-loop-item-preserved t c =
    rw add-one
    (values_more c.as_slice-item-items.result.now c.loop-item.item-index c.item-item.result c.loop-item-test.true
    c.item-item.is c.know_characters.ensures c.loop-item.invariant)
