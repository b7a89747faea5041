use Rattle.std.proofs.Common.{option_map, ap, sym, ◌∙◌, arith, refl}
use Rattle.arm_value.specs.View.{json}
use Rattle.template_parameters.proofs.LoopLemmas.{literal_within, literal_item}
use Rattle.template_parameters.proofs.LoopLemmas.{literal_items}
use Rattle.template_parameters.proofs.LoopLemmas.{literal_member, literal_members}
use Rattle.template_parameters.proofs.literals.+literal.Goals as goal
use Rattle.arm_value.proofs.GatheredLemmas.{item_within, member_within, member_last, members_ordered}

pub items_literal-literal-requires : goal.items_literal-literal-requires
items_literal-literal-requires t c =
    let h = item_within c.as_slice-item-items.result.now c.args.items.now c.loop-item.item-index c.item-item.result
    c.as_slice-item-items.ensures.items c.loop-item-test.true c.item-item.is in
    (omega (arith, h, c.decreases), tt)

pub items_literal-with_item-requires : goal.items_literal-with_item-requires
items_literal-with_item-requires t c =
    let h = item_within c.as_slice-item-items.result.now c.args.items.now c.loop-item.item-index c.item-item.result
    c.as_slice-item-items.ensures.items c.loop-item-test.true c.item-item.is in
    literal_within (json c.item-item.result) _ _ 119 c.in-Ok-Some.ensures
    (ap (option_map json) c.in-Ok-Some.field-0-is) (omega (arith, h, c.as_slice-item-items.ensures.rules.1))

pub items_literal-loop-item-preserved : goal.items_literal-loop-item-preserved
items_literal-loop-item-preserved t c =
    literal_item _ c.loop-item.found c.in_ok-found-in-Ok-Some.found c.as_slice-item-items.result.now
    c.loop-item.item-index c.item-item.result (json c.in-Ok-Some.value) _ c.loop-item.invariant
    c.loop-item-test.true c.item-item.is c.in-Ok-Some.ensures (ap (option_map json) c.in-Ok-Some.field-0-is)
    c.in_ok-found-in-Ok-Some.ensures

pub items_literal-returns : goal.items_literal-returns
items_literal-returns t c =
    literal_items c.loop-item.found c.as_slice-item-items.result.now c.args.items.now c.loop-item.item-index
    c.as_slice-item-items.ensures.items c.loop-item-test.false c.loop-item.invariant

pub fields_literal-literal-requires : goal.fields_literal-literal-requires
fields_literal-literal-requires t c =
    let h = member_within c.as_slice-field-items.result.now c.args.fields.now c.loop-field.field-index
    c.field-item.result c.as_slice-field-items.ensures.members c.loop-field-test.true c.field-item.is in
    (omega (arith, h, c.decreases), tt)

pub fields_literal-with_member-requires-clause-nests : goal.fields_literal-with_member-requires-clause-nests
fields_literal-with_member-requires-clause-nests t c =
    let h = member_within c.as_slice-field-items.result.now c.args.fields.now c.loop-field.field-index
    c.field-item.result c.as_slice-field-items.ensures.members c.loop-field-test.true c.field-item.is in
    literal_within (json c.field-item.result.value) _ _ 119 c.in-Ok-Some.ensures
    (ap (option_map json) c.in-Ok-Some.field-0-is) (omega (arith, h, c.as_slice-field-items.ensures.rules.2))

pub fields_literal-with_member-requires-clause-last : goal.fields_literal-with_member-requires-clause-last
fields_literal-with_member-requires-clause-last t c =
    member_last c.loop-field.found c.as_slice-field-items.result.now c.loop-field.field-index c.field-item.result
    c.field-item.result.name (json c.in-Ok-Some.value) c.loop-field.invariant.ordered c.loop-field-test.true
    c.field-item.is refl

pub fields_literal-loop-field-preserved : goal.fields_literal-loop-field-preserved
fields_literal-loop-field-preserved t c = record {
  all = literal_member _ c.loop-field.found c.in_ok-found-in-Ok-Some.found c.as_slice-field-items.result.now
      c.loop-field.field-index c.field-item.result c.field-item.result.name (json c.in-Ok-Some.value) _
      c.loop-field.invariant.all c.loop-field-test.true c.field-item.is (sym c.is_copy.ensures
      ∙ c.if-is_copy.false) refl c.in-Ok-Some.ensures (ap (option_map json) c.in-Ok-Some.field-0-is)
      c.in_ok-found-in-Ok-Some.ensures;
  ordered = members_ordered c.loop-field.found c.in_ok-found-in-Ok-Some.found c.as_slice-field-items.result.now
      c.loop-field.field-index c.field-item.result c.field-item.result.name (json c.in-Ok-Some.value)
      c.loop-field.invariant.ordered c.loop-field-test.true c.field-item.is refl c.in_ok-found-in-Ok-Some.ensures;
}

pub fields_literal-returns : goal.fields_literal-returns
fields_literal-returns t c =
    literal_members c.loop-field.found c.as_slice-field-items.result.now c.args.fields.now c.loop-field.field-index
    c.as_slice-field-items.ensures.members c.loop-field-test.false c.loop-field.invariant.all
