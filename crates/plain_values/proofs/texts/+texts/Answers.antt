use Rattle.std.proofs.Common.{refl, ap, ◌∙◌, arith}
use Rattle.arm_value.specs.Json.{array, object, row, pairs}
use Rattle.arm_value.specs.View.{json}
use Rattle.plain_values.specs.Plain.{changed}
use Rattle.plain_values.proofs.TextsLemmas.{member_within, next_item_within, next_member_within}
use Rattle.plain_values.proofs.TextsLemmas.{member_last}
use Rattle.plain_values.proofs.TextsLemmas.{all_items, all_members, row-each, pairs-each}
use Rattle.plain_values.proofs.texts.+texts.Goals as goal
use Rattle.arm_value.proofs.GatheredLemmas.{item_within}

pub each_text-returns-in_ok-items_texts-in-Array : goal.each_text-returns-in_ok-items_texts-in-Array
each_text-returns-in_ok-items_texts-in-Array t c =
    rw c.in-Array.is
    (ap (λ js. array (row js)) c.in_ok-items_texts-in-Array.ensures
    ∙ ap array (row-each (changed c.args.change) c.in-Array.items))

pub each_text-returns-in_ok-fields_texts-in-Object : goal.each_text-returns-in_ok-fields_texts-in-Object
each_text-returns-in_ok-fields_texts-in-Object t c =
    rw c.in-Object.is
    (ap (λ ms. object (pairs ms)) c.in_ok-fields_texts-in-Object.ensures
    ∙ ap object (pairs-each (changed c.args.change) c.in-Object.fields))

pub fields_texts-each_text-requires : goal.fields_texts-each_text-requires
fields_texts-each_text-requires t c =
    let h = member_within c.as_slice-field-items.result.now c.args.fields.now c.loop-field.field-index
    c.field-item.result c.as_slice-field-items.ensures.members c.loop-field-test.true c.field-item.is in
    (omega (arith, h, c.decreases), tt)

pub fields_texts-with_member-requires-clause-nests : goal.fields_texts-with_member-requires-clause-nests
fields_texts-with_member-requires-clause-nests t c =
    next_member_within (changed c.args.change) c.as_slice-field-items.result.now c.args.fields.now
    c.loop-field.field-index c.field-item.result (json c.in-Ok.value) 119 c.as_slice-field-items.ensures.members
    c.loop-field-test.true c.field-item.is c.in-Ok.ensures c.as_slice-field-items.ensures.rules.2

pub fields_texts-with_member-requires-clause-last : goal.fields_texts-with_member-requires-clause-last
fields_texts-with_member-requires-clause-last t c =
    member_last (changed c.args.change) c.loop-field.made c.as_slice-field-items.result.now
    c.args.fields.now c.loop-field.field-index c.field-item.result c.field-item.result.name (json c.in-Ok.value)
    c.as_slice-field-items.ensures.members c.as_slice-field-items.ensures.rules.0 c.loop-field.invariant
    c.loop-field-test.true c.field-item.is refl c.in-Ok.ensures

pub fields_texts-returns : goal.fields_texts-returns
fields_texts-returns t c =
    all_members (changed c.args.change) c.loop-field.made c.as_slice-field-items.result.now
    c.args.fields.now c.loop-field.field-index c.as_slice-field-items.ensures.members c.loop-field-test.false
    c.loop-field.invariant

pub items_texts-each_text-requires : goal.items_texts-each_text-requires
items_texts-each_text-requires t c =
    let h = item_within c.as_slice-item-items.result.now c.args.items.now c.loop-item.item-index
    c.item-item.result c.as_slice-item-items.ensures.items c.loop-item-test.true c.item-item.is in
    (omega (arith, h, c.decreases), tt)

pub items_texts-with_item-requires : goal.items_texts-with_item-requires
items_texts-with_item-requires t c =
    next_item_within (changed c.args.change) c.as_slice-item-items.result.now c.args.items.now
    c.loop-item.item-index c.item-item.result (json c.in-Ok.value) 119 c.as_slice-item-items.ensures.items
    c.loop-item-test.true c.item-item.is c.in-Ok.ensures c.as_slice-item-items.ensures.rules.1

pub items_texts-returns : goal.items_texts-returns
items_texts-returns t c =
    all_items (changed c.args.change) c.loop-item.made c.as_slice-item-items.result.now
    c.args.items.now c.loop-item.item-index c.as_slice-item-items.ensures.items c.loop-item-test.false
    c.loop-item.invariant
