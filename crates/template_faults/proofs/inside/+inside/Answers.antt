use Rattle.std.proofs.Common.{ap, arith}
use Rattle.arm_value.specs.Json.{nesting}
use Rattle.arm_value.specs.View.{json}
use Rattle.template_faults.proofs.inside.+inside.Goals as goal
use Rattle.arm_value.proofs.GatheredLemmas.{item_within, member_within}

pub array_in-resource_in-requires : goal.array_in-resource_in-requires
array_in-resource_in-requires t c =
    let h = item_within c.as_slice-item-items.result.now c.in-Array.items c.loop-i.i c.item-item.result
    c.as_slice-item-items.ensures.items c.loop-i-test.true c.item-item.is in
    (omega (arith, h, ap (λ v. nesting (json v)) c.in-Array.is, c.decreases), tt)

pub symbols_in-resource_in-requires : goal.symbols_in-resource_in-requires
symbols_in-resource_in-requires t c =
    let h = member_within c.as_slice-field-items.result.now c.in-Object.fields c.loop-field.field-index
    c.field-item.result c.as_slice-field-items.ensures.members c.loop-field-test.true c.field-item.is in
    (omega (arith, h, ap (λ v. nesting (json v)) c.in-Object.is, c.decreases), tt)

pub resources_of-array_in-requires : goal.resources_of-array_in-requires
resources_of-array_in-requires t c =
    let h = member_within c.as_slice-field-items.result.now c.args.fields.now c.loop-field.field-index
    c.field-item.result c.as_slice-field-items.ensures.members c.loop-field-test.true c.field-item.is in
    (omega (arith, h, c.decreases), tt)

pub resources_of-symbols_in-requires : goal.resources_of-symbols_in-requires
resources_of-symbols_in-requires t c =
    let h = member_within c.as_slice-field-items.result.now c.args.fields.now c.loop-field.field-index
    c.field-item.result c.as_slice-field-items.ensures.members c.loop-field-test.true c.field-item.is in
    (omega (arith, h, c.decreases), tt)

pub children_of-array_in-requires : goal.children_of-array_in-requires
children_of-array_in-requires t c =
    let h = member_within c.as_slice-field-items.result.now c.args.fields.now c.loop-field.field-index
    c.field-item.result c.as_slice-field-items.ensures.members c.loop-field-test.true c.field-item.is in
    (omega (arith, h, c.decreases), tt)

pub properties_of-properties_in-requires : goal.properties_of-properties_in-requires
properties_of-properties_in-requires t c =
    let h = member_within c.as_slice-field-items.result.now c.args.fields.now c.loop-field.field-index
    c.field-item.result c.as_slice-field-items.ensures.members c.loop-field-test.true c.field-item.is in
    (omega (arith, h, c.decreases), tt)

pub nested_of-template_in-requires : goal.nested_of-template_in-requires
nested_of-template_in-requires t c =
    let h = member_within c.as_slice-field-items.result.now c.args.fields.now c.loop-field.field-index
    c.field-item.result c.as_slice-field-items.ensures.members c.loop-field-test.true c.field-item.is in
    (omega (arith, h, c.decreases), tt)
