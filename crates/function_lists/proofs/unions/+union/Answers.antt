use Rattle.std.proofs.Common.{◌≡◌, ◌++◌, ap, sym, ◌∙◌, map, subst, arith, IfOk}
use Rattle.arm_value.specs.Json.{members_nesting, pairs, IsInOrder}
use Rattle.arm_value.specs.View.{member}
use Rattle.arm_value.proofs.JsonLemmas.{member_nests}
use Rattle.function_lists.proofs.MergeLemmas.{merged, starts, united_in_order}
use Rattle.function_lists.proofs.UnionLemmas.{united_more, united_ends, united_nests, rest_in_order}
use Rattle.function_lists.proofs.unions.+union.Goals as goal

pub united-loop-field-init : goal.united-loop-field-init
united-loop-field-init t c =
    let first : map member c.from_vec-rest.result.items ≡ c.args.first = ap (map member) c.from_vec-rest.ensures.items
    ∙ c.into_vec.ensures in
    record {
      all =
          (λ i. map member (c.new-members.ensures.items i) ++ merged (first i)
          (pairs (c.as_slice-field-items.ensures.members i)))
          ∙ starts c.args.first (pairs c.args.second.now) c.depth-depth.ensures.rules.0;
      ordered = subst IsInOrder (sym first) c.depth-depth.ensures.rules.0;
    }

pub united-add_united-requires : goal.united-add_united-requires
united-add_united-requires t c =
    let deep = member_nests c.as_slice-field-items.result.now c.loop-field.field-index c.field-item.result
    c.loop-field-test.true c.field-item.is in
    (omega (arith, deep, ap members_nesting c.as_slice-field-items.ensures.members, c.decreases), tt)

pub united-loop-field-preserved : goal.united-loop-field-preserved
united-loop-field-preserved t c =
    let fs = c.as_slice-field-items.result.now in
    let f = c.field-item.result in
    let ms = map member c.loop-field.rest.items in
    let rest = map member c.add_united.new.rest.items in
    let ordered = subst IsInOrder (sym c.as_slice-field-items.ensures.members) c.as_slice-field-items.ensures.rules.0 in
    record {
      all = united_more (map member c.loop-field.members.items) (map member c.add_united.new.members.items) ms rest fs
          c.loop-field.field-index f _ c.loop-field-test.true c.field-item.is c.loop-field.invariant.ordered ordered
          c.in_ok-add_united.ensures.members
          c.in_ok-add_united.ensures.rest c.loop-field.invariant.all;
      ordered = rest_in_order f.name ms rest c.loop-field.invariant.ordered c.in_ok-add_united.ensures.rest;
    }

pub united-all_in_object-requires-clause-ordered : goal.united-all_in_object-requires-clause-ordered
united-all_in_object-requires-clause-ordered t c =
    let whole = united_ends (map member c.loop-field.members.items) (map member c.loop-field.rest.items)
    c.as_slice-field-items.result.now c.loop-field.field-index _ c.loop-field-test.false
    c.loop-field.invariant.all in
    subst IsInOrder (sym whole) (united_in_order c.args.first (pairs c.args.second.now))

pub united-all_in_object-requires-clause-nests : goal.united-all_in_object-requires-clause-nests
united-all_in_object-requires-clause-nests t c =
    let whole = united_ends (map member c.loop-field.members.items) (map member c.loop-field.rest.items)
    c.as_slice-field-items.result.now c.loop-field.field-index _ c.loop-field-test.false
    c.loop-field.invariant.all in
    let deep =
    united_nests c.args.first (pairs c.args.second.now) c.depth-depth.ensures.rules.2
    c.as_slice-field-items.ensures.rules.2 in
    omega (arith, deep, ap members_nesting whole)

pub united-returns : goal.united-returns
united-returns t c =
    let whole = united_ends (map member c.loop-field.members.items) (map member c.loop-field.rest.items)
    c.as_slice-field-items.result.now c.loop-field.field-index _ c.loop-field-test.false
    c.loop-field.invariant.all in
    subst (λ ms. IfOk c.all_in_object.result (λ fields. fields ≡ ms)) whole c.all_in_object.ensures
