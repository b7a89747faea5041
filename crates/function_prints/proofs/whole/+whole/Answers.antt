use Rattle.std.proofs.Common.{ap, subst, arith, ◌≡◌, None}
use Rattle.arm_value.specs.Json.{items_nesting, members_nesting, row, pairs}
use Rattle.arm_value.specs.Reading.{row_data, pairs_data, items_not_whole, members_not_whole}
use Rattle.arm_value.proofs.JsonLemmas.{item_nests, member_nests}
use Rattle.function_prints.proofs.WholeLemmas.{items_more, items_end, members_more, members_end}
use Rattle.function_prints.proofs.whole.+whole.Goals as goal

pub items_are_whole-has_whole_numbers-requires : goal.items_are_whole-has_whole_numbers-requires
items_are_whole-has_whole_numbers-requires t c =
    let h = item_nests c.as_slice-item-items.result.now c.loop-item.item-index c.item-item.result
    c.loop-item-test.true c.item-item.is in
    let same = ap items_nesting c.as_slice-item-items.ensures.items in
    (omega (arith, h, same, c.decreases), tt)

pub items_are_whole-loop-item-preserved : goal.items_are_whole-loop-item-preserved
items_are_whole-loop-item-preserved t c =
    λ rest. c.loop-item.invariant (items_more c.as_slice-item-items.result.now c.loop-item.item-index
    c.item-item.result c.loop-item-test.true c.item-item.is c.has_whole_numbers.ensures rest)

pub items_are_whole-returns : goal.items_are_whole-returns
items_are_whole-returns t c =
    λ i. subst (λ js. items_not_whole i (row_data (row js)) ≡ None) c.as_slice-item-items.ensures.items
    (c.loop-item.invariant (items_end c.as_slice-item-items.result.now c.loop-item.item-index
    c.loop-item-test.false) i)

pub fields_are_whole-has_whole_numbers-requires : goal.fields_are_whole-has_whole_numbers-requires
fields_are_whole-has_whole_numbers-requires t c =
    let h = member_nests c.as_slice-field-items.result.now c.loop-field.field-index c.field-item.result
    c.loop-field-test.true c.field-item.is in
    let same = ap members_nesting c.as_slice-field-items.ensures.members in
    (omega (arith, h, same, c.decreases), tt)

pub fields_are_whole-loop-field-preserved : goal.fields_are_whole-loop-field-preserved
fields_are_whole-loop-field-preserved t c =
    λ rest. c.loop-field.invariant (members_more c.as_slice-field-items.result.now c.loop-field.field-index
    c.field-item.result c.loop-field-test.true c.field-item.is c.has_whole_numbers.ensures rest)

pub fields_are_whole-returns : goal.fields_are_whole-returns
fields_are_whole-returns t c =
    subst (λ ms. members_not_whole (pairs_data (pairs ms)) ≡ None) c.as_slice-field-items.ensures.members
    (c.loop-field.invariant (members_end c.as_slice-field-items.result.now c.loop-field.field-index
    c.loop-field-test.false))
