use Rattle.std.proofs.Common.{◌∙◌, ◌≤◌, ◌++◌, sym, ap, map, subst, arith, refl}
use Rattle.std.proofs.lemmas.List.{append-nil}
use Rattle.arm_value.specs.Json.{members_nesting, IsInOrder}
use Rattle.arm_value.specs.View.{entry}
use Rattle.arm_value.proofs.GatherLemmas.{entries_in_order, front_in_order, append_one}
use Rattle.arm_value.proofs.gather.in_order.Goals as goal

pub loop-name-init : goal.loop-name-init
loop-name-init c =
    let same = c.into_iter-name-iterator.ensures.into_iter_gives.0 in
    record {
      all = rw c.new-fields.ensures (ap (map entry) (sym same));
      nests = subst (λ es. members_nesting (map entry es) ≤ 119) (sym same) c.requires;
    }

pub push_last-requires-clause-nests : goal.push_last-requires-clause-nests
push_last-requires-clause-nests c =
    let left = subst (λ es. members_nesting (map entry es) ≤ 119) c.in-Some.ensures.steps c.loop-name.invariant.nests in
    omega (arith, left)

pub push_last-requires-clause-last : goal.push_last-requires-clause-last
push_last-requires-clause-last c =
    let all = c.loop-name.invariant.all ∙ ap (λ es. c.loop-name.fields ++ map entry es) c.in-Some.ensures.steps in
    let ordered = entries_in_order c.args.sorted.entries c.into_iter-name-iterator.ensures.into_iter_gives.5 in
    rw c.from_string.ensures.characters
    (front_in_order _ (map entry c.next.new.self)
    (subst IsInOrder (all
    ∙ append_one c.loop-name.fields (map entry c.next.new.self) (entry (c.in-Some.name, c.in-Some.value)))
    ordered))

pub loop-name-preserved : goal.loop-name-preserved
loop-name-preserved c =
    let left = subst (λ es. members_nesting (map entry es) ≤ 119) c.in-Some.ensures.steps c.loop-name.invariant.nests in
    record {
      all = c.loop-name.invariant.all ∙ ap (λ es. c.loop-name.fields ++ map entry es) c.in-Some.ensures.steps
          ∙ append_one c.loop-name.fields (map entry c.next.new.self) _
          ∙ rw (c.in_ok-push_last.ensures, c.from_string.ensures.characters) refl;
      nests = omega (arith, left);
    }

pub returns : goal.returns
returns c = sym (c.loop-name.invariant.all ∙ ap (λ es. c.loop-name.fields ++ map entry es) c.in-None.ensures.steps.0
    ∙ append-nil c.loop-name.fields)
