use Rattle.std.proofs.Common.{arith, ap}
use Rattle.arm_value.specs.Json.{items_nesting, members_nesting}
use Rattle.arm_value.proofs.JsonLemmas.{item_nests, member_nests, next_in_order}
use Rattle.arm_value.proofs.value.+copy.Goals as goal

pub Items::copy-copy-requires : goal.Items::copy-copy-requires
Items::copy-copy-requires t c =
    let h = item_nests c.as_slice-item-items.result.now c.loop-item.item-index c.item-item.result
    c.loop-item-test.true c.item-item.is in
    let same = ap items_nesting c.as_slice-item-items.ensures.items in
    (omega (arith, h, same, c.decreases), tt)

pub Items::copy-push-requires : goal.Items::copy-push-requires
Items::copy-push-requires t c =
    let h = item_nests c.as_slice-item-items.result.now c.loop-item.item-index c.item-item.result
    c.loop-item-test.true c.item-item.is in
    let same = ap items_nesting c.as_slice-item-items.ensures.items in
    rw c.in_ok-copy.ensures (omega (arith, h, same, c.as_slice-item-items.ensures.rules.1))

pub Fields::copy-copy-requires-in-loop-field : goal.Fields::copy-copy-requires-in-loop-field
Fields::copy-copy-requires-in-loop-field t c =
    let h = member_nests c.as_slice-field-items.result.now c.loop-field.field-index c.field-item.result
    c.loop-field-test.true c.field-item.is in
    let same = ap members_nesting c.as_slice-field-items.ensures.members in
    (omega (arith, h, same, c.decreases), tt)

pub Fields::copy-push_last-requires-clause-nests : goal.Fields::copy-push_last-requires-clause-nests
Fields::copy-push_last-requires-clause-nests t c =
    let h = member_nests c.as_slice-field-items.result.now c.loop-field.field-index c.field-item.result
    c.loop-field-test.true c.field-item.is in
    let same = ap members_nesting c.as_slice-field-items.ensures.members in
    rw c.in_ok-value.ensures (omega (arith, h, same, c.as_slice-field-items.ensures.rules.2))

pub Fields::copy-push_last-requires-clause-last : goal.Fields::copy-push_last-requires-clause-last
Fields::copy-push_last-requires-clause-last t c =
    let all = c.as_slice-field-items.ensures in
    rw (c.in_ok-value.ensures, c.in_ok-name.ensures)
    (next_in_order c.as_slice-field-items.result.now c.args.self.now c.loop-field.copies c.loop-field.field-index
    c.field-item.result all.members all.rules.0 c.loop-field-test.true c.field-item.is c.loop-field.invariant)
