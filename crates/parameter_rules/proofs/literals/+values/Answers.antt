use Rattle.std.proofs.Common.{map, sym, ap, ◌∙◌, subst, arith}
use Rattle.arm_value.specs.Json as json
use Rattle.bicep_tree.proofs.ViewLemmas.{tree_of-Array, tree_of-Object, member_of-Property, value_of-Plain}
use Rattle.bicep_tree.proofs.ViewLemmas.{object_of-is}
use Rattle.bicep_tree.specs.Nesting.{nesting, object_nesting, member_nesting, value_nesting}
use Rattle.bicep_tree.specs.Tree as tree
use Rattle.bicep_tree.specs.Tree.{trees, members}
use Rattle.bicep_tree.specs.View as view
use Rattle.parameter_rules.proofs.LoopLemmas.{Goes, Fills, begins, item_fits, goes_on, ends}
use Rattle.parameter_rules.proofs.LoopLemmas.{fills_first, member_fits, fills_on, fills_last}
use Rattle.parameter_rules.proofs.NestLemmas.{value_nests, plain_nests}
use Rattle.parameter_rules.proofs.literals.+values.Goals as goal

-- ---- a value and its parts

pub value-items_of-requires : goal.value-items_of-requires
value-items_of-requires t c =
    let is =
    ap view.tree_of c.in-Array.is ∙ tree_of-Array c.in-Array.field-0 c.in-Array.items
    ∙ ap (λ es. tree.array c.in-Array.field-0 (trees (map view.tree_of es))) (sym c.as_slice.ensures.value) in
    let n = ap nesting is in (omega (arith, n, c.decreases), omega (arith, n, c.requires))

pub value-fields_of-requires : goal.value-fields_of-requires
value-fields_of-requires t c =
    let n = ap nesting (ap view.tree_of c.in-Object.is ∙ tree_of-Object c.in-Object.object) in
    (omega (arith, n, c.decreases), omega (arith, n, c.requires))

pub fields_of-each_of-requires : goal.fields_of-each_of-requires
fields_of-each_of-requires t c =
    let is =
    object_of-is c.args.object.now
    ∙ ap (λ ms. tree.braces c.args.object.now.at (members (map view.member_of ms))) (sym c.as_slice.ensures.value) in
    let n = ap object_nesting is in (omega (arith, n, c.decreases), omega (arith, n, c.requires))

pub with_member-plain_value-requires : goal.with_member-plain_value-requires
with_member-plain_value-requires t c =
    let n =
    ap member_nesting
    (ap view.member_of c.in-Property.is ∙ member_of-Property c.in-Property.label c.in-Property.plain) in
    (omega (arith, n, c.decreases), omega (arith, n, c.requires))

pub with_member-with_value-requires : goal.with_member-with_value-requires
with_member-with_value-requires t c =
    let n =
    ap member_nesting
    (ap view.member_of c.in-Property.is ∙ member_of-Property c.in-Property.label c.in-Property.plain) in
    let h = plain_nests (view.value_of c.in-Property.plain) in
    let e = ap json.nesting c.in-Ok.ensures in omega (arith, n, h, e, c.requires)

pub plain_value-value-requires : goal.plain_value-value-requires
plain_value-value-requires t c =
    let n = ap value_nesting (ap view.value_of c.in-Plain.is ∙ value_of-Plain c.in-Plain.e) in
    (omega (arith, n, c.decreases), omega (arith, n, c.requires))

-- ---- items

pub items_of-loop-e-init : goal.items_of-loop-e-init
items_of-loop-e-init t c = subst (Goes c.args.exprs.now 0) (sym c.new-found.ensures) (begins c.args.exprs.now)

pub items_of-value-requires : goal.items_of-value-requires
items_of-value-requires t c =
    let n =
    item_fits c.args.exprs.now c.loop-e.e-index c.loop-e.found c.e-item.result c.loop-e-test.true c.e-item.is
    c.loop-e.invariant in
    (omega (arith, n, c.decreases), omega (arith, n, c.requires))

pub items_of-with_item-requires : goal.items_of-with_item-requires
items_of-with_item-requires t c =
    let n =
    item_fits c.args.exprs.now c.loop-e.e-index c.loop-e.found c.e-item.result c.loop-e-test.true c.e-item.is
    c.loop-e.invariant in
    let h = value_nests (view.tree_of c.e-item.result) in
    let e = ap json.nesting c.in-Ok.ensures in omega (arith, n, h, e, c.requires)

pub items_of-loop-e-preserved : goal.items_of-loop-e-preserved
items_of-loop-e-preserved t c =
    goes_on c.args.exprs.now c.loop-e.e-index c.loop-e.found c.in_ok-found-in-Ok.found c.e-item.result _
    c.loop-e-test.true c.e-item.is c.in-Ok.ensures c.in_ok-found-in-Ok.ensures c.loop-e.invariant

pub items_of-returns : goal.items_of-returns
items_of-returns t c =
    ends c.args.exprs.now c.loop-e.e-index c.loop-e.found c.loop-e-test.false c.loop-e.invariant

-- ---- members

pub each_of-loop-member-init : goal.each_of-loop-member-init
each_of-loop-member-init t c =
    subst (Fills c.args.inner.now 0) (sym c.new-found.ensures) (fills_first c.args.inner.now)

pub each_of-with_member-requires : goal.each_of-with_member-requires
each_of-with_member-requires t c =
    let n =
    member_fits c.args.inner.now c.loop-member.member-index c.loop-member.found c.member-item.result
    c.loop-member-test.true c.member-item.is c.loop-member.invariant in
    (omega (arith, n, c.decreases), omega (arith, n, c.requires))

pub each_of-loop-member-preserved : goal.each_of-loop-member-preserved
each_of-loop-member-preserved t c =
    fills_on c.args.inner.now c.loop-member.member-index c.loop-member.found c.in_ok-found.found
    c.member-item.result c.loop-member-test.true c.member-item.is c.in_ok-found.ensures c.loop-member.invariant

pub each_of-returns : goal.each_of-returns
each_of-returns t c =
    fills_last c.args.inner.now c.loop-member.member-index c.loop-member.found c.loop-member-test.false
    c.loop-member.invariant
