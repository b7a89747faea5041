use Rattle.std.proofs.Common.{ap, arith}
use Rattle.arm_value.specs.Json.{nesting, items_nesting, members_nesting}
use Rattle.arm_value.specs.View.{json}
use Rattle.arm_value.specs.declared.value.Field.{Field}
use Rattle.arm_value.proofs.JsonLemmas.{item_nests, member_nests}
use Rattle.arm_value.proofs.SameLemmas.{items_differ, fields_differ}
use Rattle.arm_value.proofs.same.+same.Goals as goal

pub items_are_same-returns-then-a-b : goal.items_are_same-returns-then-a-b
items_are_same-returns-then-a-b t c =
    items_differ c.as_slice-a.result.now c.as_slice-b.result.now _ _ c.as_slice-a.ensures.items
    c.as_slice-b.ensures.items (λ e. omega (arith, e))

pub items_are_same-are_same-requires : goal.items_are_same-are_same-requires
items_are_same-are_same-requires t c =
    let h = item_nests c.as_slice-a.result.now c.loop-i.i c.index-a-i.result c.loop-i-test.true c.index-a-i.is in
    let same = ap items_nesting c.as_slice-a.ensures.items in
    (omega (arith, h, same, c.decreases), tt)

pub members_are_same-returns-then-a-b : goal.members_are_same-returns-then-a-b
members_are_same-returns-then-a-b t c =
    fields_differ c.as_slice-a.result.now c.as_slice-b.result.now _ _ c.as_slice-a.ensures.members
    c.as_slice-b.ensures.members (λ e. omega (arith, e))

pub members_are_same-are_same-requires : goal.members_are_same-are_same-requires
members_are_same-are_same-requires t c =
    let h = member_nests c.as_slice-a.result.now c.loop-i.i c.index-a-i-else-not-same.result c.loop-i-test.true
    c.index-a-i-else-not-same.is in
    let same = ap members_nesting c.as_slice-a.ensures.members in
    let here = ap (λ (f : Field). nesting (json f.value)) c.index-a-i-else-not-same.is in
    (omega (arith, h, same, here, c.decreases), tt)
