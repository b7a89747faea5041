use Rattle.std.proofs.Common.{◌≡◌, ◌≤◌, [], ◌∷◌, sym, ap, ◌∙◌, subst, arith, string_bytes, None, length}
use Rattle.std.proofs.lemmas.Iterator.Adapters.{YieldsList-from_vec}
use Rattle.std.proofs.lemmas.Iterator.Consumers.{YieldsList-turn, YieldsList-end}
use Rattle.serde_json.specs.Data.{members_depth}
use Rattle.serde_json.specs.View.{members_view, view}
use Rattle.serde_json.proofs.Views.{Entry}
use Rattle.arm_value.specs.Json.{Member}
use Rattle.arm_value.specs.View.{json}
use Rattle.arm_value.specs.Reading.{members_not_whole}
use Rattle.arm_value.proofs.DataLemmas.{item_depth, item_whole, all_items, data_nests, member_whole, then_members}
use Rattle.arm_value.proofs.DataLemmas.{then_members-none, Ascends-members_view, member_nests, members_whole_step}
use Rattle.arm_value.proofs.DataLemmas.{members_step, next_in_order}
use Rattle.arm_value.proofs.convert.+convert.Goals as goal

pub convert_items-convert-requires : goal.convert_items-convert-requires
convert_items-convert-requires t c =
    let gives = c.into_iter-item-iterator.ensures.into_iter_gives in
    let at = YieldsList-turn (YieldsList-from_vec c.args.items.items gives.0 (gives.1 ∙ c.args.items.ok.0))
    c.loop-item.yielded c.loop-item.item-iterator c.loop-item.yielded_by c.next.result c.next.new.self
    c.in-Some.item c.in-Some.is c.next.ensures.steps in
    let deep = item_depth c.args.items.items (length c.loop-item.yielded) c.in-Some.item at.0 at.1 in (
      omega (arith, deep, c.decreases),
      (
        item_whole 0 c.args.items.items (length c.loop-item.yielded) c.in-Some.item c.requires.whole at.0 at.1,
        omega (arith, deep, c.requires.nests),
      ),
    )

pub convert_items-push-requires : goal.convert_items-push-requires
convert_items-push-requires t c =
    let gives = c.into_iter-item-iterator.ensures.into_iter_gives in
    let at = YieldsList-turn (YieldsList-from_vec c.args.items.items gives.0 (gives.1 ∙ c.args.items.ok.0))
    c.loop-item.yielded c.loop-item.item-iterator c.loop-item.yielded_by c.next.result c.next.new.self
    c.in-Some.item c.in-Some.is c.next.ensures.steps in
    let deep = item_depth c.args.items.items (length c.loop-item.yielded) c.in-Some.item at.0 at.1 in
    data_nests (view c.in-Some.item) (json c.in_ok-convert.field-0) 119 c.in_ok-convert.ensures
    (omega (arith, deep, c.requires.nests))

pub convert_items-returns : goal.convert_items-returns
convert_items-returns t c =
    let gives = c.into_iter-item-iterator.ensures.into_iter_gives in
    let whole = YieldsList-end (YieldsList-from_vec c.args.items.items gives.0 (gives.1 ∙ c.args.items.ok.0))
    c.loop-item.yielded c.loop-item.item-iterator c.loop-item.yielded_by c.next.result c.next.new.self
    c.in-None.is c.next.ensures.steps in
    all_items c.loop-item.found c.loop-item.yielded c.args.items.items c.loop-item.invariant whole.0

pub convert_members-loop-name-init : goal.convert_members-loop-name-init
convert_members-loop-name-init t c =
    let same : c.args.members.entries ≡ c.into_iter-name-iterator.result =
    sym c.into_iter-name-iterator.ensures.into_iter_gives.0 in
    record {
      all = rw c.new-found.ensures (ap members_view same);
      whole = subst (λ es. members_not_whole (members_view es) ≡ None) same c.requires.whole;
      nests = omega (arith, ap (λ es. members_depth (members_view es)) same);
    }

pub convert_members-convert-requires : goal.convert_members-convert-requires
convert_members-convert-requires t c =
    let e : Entry = (c.in-Some.name, c.in-Some.member) in
    let left = c.next.new.self in
    let whole : members_not_whole (members_view (e ∷ left)) ≡ None =
    subst (λ es. members_not_whole (members_view es) ≡ None) c.in-Some.ensures.steps c.loop-name.invariant.whole
    in
    let nests : members_depth (members_view (e ∷ left)) ≤ members_depth (members_view c.args.members.entries) =
    subst (λ es. members_depth (members_view es) ≤ members_depth (members_view c.args.members.entries))
    c.in-Some.ensures.steps c.loop-name.invariant.nests in (
      omega (arith, nests, c.decreases),
      (
        member_whole (string_bytes e.0) (view e.1) (members_view left) whole,
        omega (arith, nests, c.requires.nests),
      ),
    )

pub convert_members-push_last-requires-clause-nests : goal.convert_members-push_last-requires-clause-nests
convert_members-push_last-requires-clause-nests t c =
    let e : Entry = (c.in-Some.name, c.in-Some.member) in
    let left : members_depth (members_view (e ∷ c.next.new.self)) ≤ members_depth
    (members_view c.args.members.entries) =
    subst (λ es. members_depth (members_view es) ≤ members_depth (members_view c.args.members.entries))
    c.in-Some.ensures.steps c.loop-name.invariant.nests in
    member_nests (string_bytes e.0) (view e.1) (members_view c.next.new.self) (json c.in_ok-value.value)
    (omega (arith, left, c.requires.nests)) c.in_ok-value.ensures

pub convert_members-push_last-requires-clause-last : goal.convert_members-push_last-requires-clause-last
convert_members-push_last-requires-clause-last t c =
    let e : Entry = (c.in-Some.name, c.in-Some.member) in
    let left = c.next.new.self in
    let m : Member = (c.from_string.result, json c.in_ok-value.value) in
    let found = c.loop-name.found in
    let all : members_view c.args.members.entries ≡ then_members found (members_view (e ∷ left)) =
    c.loop-name.invariant.all ∙ ap (λ es. then_members found (members_view es)) c.in-Some.ensures.steps in
    next_in_order (members_view c.args.members.entries) found e left m all
    (Ascends-members_view c.args.members.entries c.into_iter-name-iterator.ensures.into_iter_gives.5)
    c.from_string.ensures.bytes

pub convert_members-loop-name-preserved : goal.convert_members-loop-name-preserved
convert_members-loop-name-preserved t c =
    let e : Entry = (c.in-Some.name, c.in-Some.member) in
    let left = c.next.new.self in
    let m : Member = (c.from_string.result, json c.in_ok-value.value) in
    let found = c.loop-name.found in
    let steps = c.in-Some.ensures.steps in
    let all : members_view c.args.members.entries ≡ then_members found (members_view (e ∷ left)) =
    c.loop-name.invariant.all ∙ ap (λ es. then_members found (members_view es)) steps in
    let whole : members_not_whole (members_view (e ∷ left)) ≡ None =
    subst (λ es. members_not_whole (members_view es) ≡ None) steps c.loop-name.invariant.whole in
    let nests : members_depth (members_view (e ∷ left)) ≤ members_depth (members_view c.args.members.entries) =
    subst (λ es. members_depth (members_view es) ≤ members_depth (members_view c.args.members.entries)) steps
    c.loop-name.invariant.nests in
    record {
      all = members_step (members_view c.args.members.entries) found c.push_last.new.self e left m all
          c.from_string.ensures.bytes c.in_ok-value.ensures c.in_ok-push_last.ensures;
      whole = members_whole_step (string_bytes e.0) (view e.1) (members_view left) whole;
      nests = omega (arith, nests);
    }

pub convert_members-returns : goal.convert_members-returns
convert_members-returns t c =
    let none : c.loop-name.name-iterator ≡ [] = c.in-None.ensures.steps.0 in
    sym (c.loop-name.invariant.all ∙ ap (λ es. then_members c.loop-name.found (members_view es)) none
    ∙ then_members-none c.loop-name.found)
