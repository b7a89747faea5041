use Rattle.reading.specs.Knowledge as knowledge
use Rattle.reading.specs.Knowledge.{told, finished}
use Rattle.std.proofs.Common.{◌≡◌, List, map, option_map, Some, None, sym, ap, ◌∙◌, subst, arith, rules}
use Rattle.std.proofs.lemmas.Result.{err_from_is_err_and}
use Rattle.arm_value.specs.Json.{Json, Member, null, bool, int}
use Rattle.arm_value.specs.View.{json, member}
use Rattle.arm_value.proofs.JsonLemmas.{item_nests, member_nests}
use Rattle.arm_eval.specs.Trees.{tree_value, copied, counted, count_of, counting, looping_of}
use Rattle.arm_eval.specs.Words.{copying_of}
use Rattle.arm_env.specs.Answer.{Gives, Stops, outcome_told}
use Rattle.arm_env.specs.Look.{Look}
use Rattle.arm_env.specs.Sight.{here}
use Rattle.arm_env.specs.declared.env.Looping.{Looping}
use Rattle.arm_env.proofs.Answers.{goes, stops, told-done, outcome_gives}
use Rattle.arm_eval.proofs.TurnLemmas.{array_given, array_stops}
use Rattle.arm_env.proofs.Turns.{all_given, all_stop}
use Rattle.arm_eval.proofs.ObjectLemmas.{array_is, object_is, own_copy, own_told, own_stops, given_is, nothing_given}
use Rattle.arm_eval.proofs.ObjectLemmas.{copies_are, no_copies, counted_given, counted_stops, object_told}
use Rattle.arm_eval.proofs.ObjectLemmas.{own_stops_object, given_stops_object}
use Rattle.arm_eval.proofs.RoundLemmas.{no_value_yet, value_turn, value_stops, no_own_yet, own_turn, own_turn_stops}
use Rattle.arm_eval.proofs.RoundLemmas.{no_copy_yet, copy_turn, copy_stops, no_turn_yet, index_turn, index_stops}
use Rattle.arm_eval.proofs.RoundLemmas.{all_turns}
use Rattle.arm_eval.proofs.NestLemmas.{nests_in_outcome, given_nest}
use Rattle.arm_eval.proofs.tree.+tree.Goals as goal

pub tree_value-returns-in-Null : goal.tree_value-returns-in-Null
tree_value-returns-in-Null g t c =
    ap (λ v. told (g.K.Entries.known c.args.entries.now) (tree_value (json v) (here c.args.around.now))) c.in-Null.is
    ∙ told-done (g.K.Entries.known c.args.entries.now) (Some null)

pub tree_value-returns-in-Bool : goal.tree_value-returns-in-Bool
tree_value-returns-in-Bool g t c =
    ap (λ v. told (g.K.Entries.known c.args.entries.now) (tree_value (json v) (here c.args.around.now))) c.in-Bool.is
    ∙ told-done (g.K.Entries.known c.args.entries.now) (Some (bool c.in-Bool.truth))

pub tree_value-returns-in-Int : goal.tree_value-returns-in-Int
tree_value-returns-in-Int g t c =
    ap (λ v. told (g.K.Entries.known c.args.entries.now) (tree_value (json v) (here c.args.around.now))) c.in-Int.is
    ∙ told-done (g.K.Entries.known c.args.entries.now) (Some (int c.in-Int.number)) ∙ search rules

pub outcome-returns-clause-value : goal.outcome-returns-clause-value
outcome-returns-clause-value g t c =
    let p = g.K.Entries.known c.args.entries.now in
    rw c.outcome.ensures
    (outcome_gives json c.tree_value.result (told p (tree_value (json c.args.tree.now) (here c.args.around.now)))
    c.tree_value.ensures)

pub outcome-returns-clause-nests : goal.outcome-returns-clause-nests
outcome-returns-clause-nests g t c =
    rw c.outcome.ensures
    (nests_in_outcome (g.K.Entries.known c.args.entries.now) (here c.args.around.now)
    (json c.args.tree.now) c.tree_value.result
    c.tree_value.ensures)

pub copied_outcome-returns : goal.copied_outcome-returns
copied_outcome-returns g t c =
    rw c.outcome.ensures (outcome_gives member c.copied.result _ c.copied.ensures)

pub values-outcome-requires : goal.values-outcome-requires
values-outcome-requires g t c =
    λ κs within. (
      omega (
        arith,
        item_nests c.args.trees.now c.loop-tree.tree-index c.tree-item.result c.loop-tree-test.true
            c.tree-item.is,
        c.decreases,
      ),
      within,
    )

pub values-loop-tree-init : goal.values-loop-tree-init
values-loop-tree-init g t c =
    no_value_yet (g.K.Entries.known c.args.entries.now) (here c.args.around.now) _ (ap Some c.new.ensures)

pub values-returns-in-Err : goal.values-returns-in-Err
values-returns-in-Err g t c =
    rw c.stopped.ensures
    (value_stops (g.K.Entries.known c.args.entries.now)
    (here c.args.around.now) _ c.args.trees.now c.loop-tree.tree-index
    c.tree-item.result c.loop-tree.values c.loop-tree-test.true c.tree-item.is c.loop-tree.invariant
    c.in-Err.ensures.value)

pub values-loop-tree-preserved : goal.values-loop-tree-preserved
values-loop-tree-preserved g t c =
    value_turn (g.K.Entries.known c.args.entries.now) (here c.args.around.now) c.args.trees.now c.loop-tree.tree-index
    c.tree-item.result c.loop-tree.values _ c.loop-tree-test.true c.tree-item.is c.loop-tree.invariant
    c.in-Ok.ensures.value
    ∙ ap finished (sym c.in_ok-values-in-Ok.ensures)

-- ---- own members

pub own_members-own_member-requires : goal.own_members-own_member-requires
own_members-own_member-requires g t c =
    λ κs within. (
      omega (
        arith,
        member_nests c.args.fields.now c.loop-field.field-index c.field-item.result c.loop-field-test.true
            c.field-item.is,
        c.decreases,
      ),
      within,
    )

pub own_members-loop-field-init : goal.own_members-loop-field-init
own_members-loop-field-init g t c =
    no_own_yet (g.K.Entries.known c.args.entries.now) (here c.args.around.now) _ (ap Some c.new.ensures)

pub own_members-returns-in-Err : goal.own_members-returns-in-Err
own_members-returns-in-Err g t c =
    rw c.stopped.ensures
    (own_turn_stops (g.K.Entries.known c.args.entries.now) (here c.args.around.now) _ c.args.fields.now
    c.loop-field.field-index c.field-item.result c.loop-field.own c.loop-field-test.true c.field-item.is
    c.loop-field.invariant c.in-Err.ensures.value)

pub own_members-loop-field-preserved : goal.own_members-loop-field-preserved
own_members-loop-field-preserved g t c =
    own_turn (g.K.Entries.known c.args.entries.now) (here c.args.around.now) c.args.fields.now c.loop-field.field-index
    c.field-item.result c.loop-field.own _ c.loop-field-test.true c.field-item.is c.loop-field.invariant
    c.in-Ok.ensures.value
    ∙ ap finished (sym c.in_ok-own-in-Ok.ensures)

-- ---- the members that loops give

pub each_copied-copied_outcome-requires : goal.each_copied-copied_outcome-requires
each_copied-copied_outcome-requires g t c =
    λ κs within. (
      omega (
        arith,
        item_nests c.args.trees.now c.loop-tree.tree-index c.tree-item.result c.loop-tree-test.true
            c.tree-item.is,
        c.decreases,
      ),
      within,
    )

pub each_copied-loop-tree-init : goal.each_copied-loop-tree-init
each_copied-loop-tree-init g t c =
    no_copy_yet (g.K.Entries.known c.args.entries.now) (here c.args.around.now) _
    (ap (λ vs. Some (map member vs)) c.new.ensures.items)

pub each_copied-returns-in-Err : goal.each_copied-returns-in-Err
each_copied-returns-in-Err g t c =
    rw c.stopped.ensures
    (copy_stops (g.K.Entries.known c.args.entries.now)
    (here c.args.around.now) _ c.args.trees.now c.loop-tree.tree-index
    c.tree-item.result (option_map (λ v. map member v.items) c.loop-tree.given) c.loop-tree-test.true
    c.tree-item.is c.loop-tree.invariant c.in-Err.ensures)

pub each_copied-loop-tree-preserved : goal.each_copied-loop-tree-preserved
each_copied-loop-tree-preserved g t c =
    copy_turn (g.K.Entries.known c.args.entries.now) (here c.args.around.now) c.args.trees.now c.loop-tree.tree-index
    c.tree-item.result (option_map (λ v. map member v.items) c.loop-tree.given) _ c.loop-tree-test.true
    c.tree-item.is c.loop-tree.invariant c.in-Ok.ensures
    ∙ ap finished (sym c.in_ok-given-in-Ok.ensures)

-- ---- an array

pub array_value-returns-in_err-values : goal.array_value-returns-in_err-values
array_value-returns-in_err-values g t c =
    let r = err_from_is_err_and c.from_residual.result c.from_residual.ensures.1 in
    rw (r.1, r.2, array_is (here c.args.around.now) c.args.items.now c.as_slice.result.now c.as_slice.ensures.items)
    (array_stops (g.K.Entries.known c.args.entries.now) _ _ c.in_err-values.ensures)

pub array_value-returns : goal.array_value-returns
array_value-returns g t c =
    let p = g.K.Entries.known c.args.entries.now in
    let P : knowledge.Told Look Json → Type 0 = Gives json c.array_of.result in
    subst P
    (sym
    (ap (told p)
    (array_is (here c.args.around.now) c.args.items.now c.as_slice.result.now c.as_slice.ensures.items)
    ∙ array_given p _ _ c.in_ok-values.ensures)) c.array_of.ensures

-- ---- an own member

pub own_member-returns-then-is_copy-clause-value : goal.own_member-returns-then-is_copy-clause-value
own_member-returns-then-is_copy-clause-value g t c =
    own_copy (g.K.Entries.known c.args.entries.now) c.args.field.now.name _ (sym c.is_copy.ensures ∙ c.if-is_copy.true)

pub own_member-returns-in_err-value-clause-value : goal.own_member-returns-in_err-value-clause-value
own_member-returns-in_err-value-clause-value g t c =
    let r = err_from_is_err_and c.from_residual.result c.from_residual.ensures.1 in
    rw (r.1, r.2) (own_stops (g.K.Entries.known c.args.entries.now) _ c.args.field.now.name _ (sym c.is_copy.ensures
    ∙ c.if-is_copy.false) c.in_err-value.ensures.value)

pub own_member-returns-in-Some-clause-value : goal.own_member-returns-in-Some-clause-value
own_member-returns-in-Some-clause-value g t c =
    own_told (g.K.Entries.known c.args.entries.now) c.args.field.now.name _ (Some (json c.in-Some.value))
    (sym c.is_copy.ensures
    ∙ c.if-is_copy.false) (c.in_ok-value.ensures.value ∙ ap (λ o. knowledge.value (option_map json o)) c.in-Some.is)

pub own_member-returns-in-None-clause-value : goal.own_member-returns-in-None-clause-value
own_member-returns-in-None-clause-value g t c =
    own_told (g.K.Entries.known c.args.entries.now) c.args.field.now.name _ None (sym c.is_copy.ensures
    ∙ c.if-is_copy.false)
    (c.in_ok-value.ensures.value ∙ ap (λ o. knowledge.value (option_map json o)) c.in-None.is)

-- ---- the members that `copy` gives

pub given_members-returns-in-Some : goal.given_members-returns-in-Some
given_members-returns-in-Some g t c =
    let P : knowledge.Told Look (List Member) → Type 0 = Gives (λ v. map member v.items) c.copies.result in
    subst P
    (sym
    (ap (told (g.K.Entries.known c.args.entries.now))
    (given_is (here c.args.around.now) (map member c.args.fields.now) (json c.in-Some.tree.now)
    c.in-Some.ensures.tree))) c.copies.ensures

pub given_members-returns-in-None : goal.given_members-returns-in-None
given_members-returns-in-None g t c =
    nothing_given (g.K.Entries.known c.args.entries.now) (here c.args.around.now) (map member c.args.fields.now)
    c.in-None.ensures.tree ∙ ap (λ vs. knowledge.value (map member vs)) (sym c.new.ensures.items)

pub copies-returns-in_err-given-in-Some : goal.copies-returns-in_err-given-in-Some
copies-returns-in_err-given-in-Some g t c =
    let r = err_from_is_err_and c.from_residual.result c.from_residual.ensures.1 in
    rw (
      r.1,
      r.2,
      copies_are (here c.args.around.now) (json c.args.tree.now) c.in-Some.trees.now c.in-Some.ensures.trees,
    )
    (all_stop (g.K.Entries.known c.args.entries.now) _ _ c.in_err-given-in-Some.ensures)

pub copies-returns-in_ok-given-in-Some : goal.copies-returns-in_ok-given-in-Some
copies-returns-in_ok-given-in-Some g t c =
    let p = g.K.Entries.known c.args.entries.now in
    let P : knowledge.Told Look (List Member) → Type 0 = Gives (λ v. map member v.items) c.all_given.result in
    subst P
    (sym
    (ap (told p)
    (copies_are (here c.args.around.now) (json c.args.tree.now) c.in-Some.trees.now c.in-Some.ensures.trees)
    ∙ all_given p _ _ c.in_ok-given-in-Some.ensures)) c.all_given.ensures

pub copies-returns-in-None : goal.copies-returns-in-None
copies-returns-in-None g t c =
    no_copies (g.K.Entries.known c.args.entries.now) (here c.args.around.now)
    (json c.args.tree.now) c.in-None.ensures.trees

-- ---- an object

pub object_value-returns-in_err-own : goal.object_value-returns-in_err-own
object_value-returns-in_err-own g t c =
    let r = err_from_is_err_and c.from_residual.result c.from_residual.ensures.1 in
    rw (
      r.1,
      r.2,
      object_is (here c.args.around.now) c.args.fields.now c.as_slice-fields.result.now
          c.as_slice-fields.ensures.members,
    ) (own_stops_object (g.K.Entries.known c.args.entries.now) _ _ _ _ c.in_err-own.ensures)

pub object_value-returns-in-Err : goal.object_value-returns-in-Err
object_value-returns-in-Err g t c =
    rw (
      c.stopped.ensures,
      object_is (here c.args.around.now) c.args.fields.now c.as_slice-fields.result.now
          c.as_slice-fields.ensures.members,
    )
    (given_stops_object (g.K.Entries.known c.args.entries.now) _ _ _ _ _ c.in_ok-own.ensures c.in-Err.ensures)

pub object_value-returns-in-Ok : goal.object_value-returns-in-Ok
object_value-returns-in-Ok g t c =
    let p = g.K.Entries.known c.args.entries.now in
    let P : knowledge.Told Look Json → Type 0 = Gives json c.whole_object.result in
    subst P
    (sym
    (ap (told p)
    (object_is (here c.args.around.now) c.args.fields.now c.as_slice-fields.result.now
    c.as_slice-fields.ensures.members) ∙ object_told p _ _ _ _ _ c.in_ok-own.ensures c.in-Ok.ensures))
    c.whole_object.ensures

pub object_value-whole_object-requires : goal.object_value-whole_object-requires
object_value-whole_object-requires g t c =
    let deep =
    given_nest (g.K.Entries.known c.args.entries.now) (here c.args.around.now) (map member c.as_slice-fields.result.now)
    (map member c.in-Ok.given.items) c.in-Ok.ensures in
    omega (arith, deep)

-- ---- a loop

pub copied-returns-in-None : goal.copied-returns-in-None
copied-returns-in-None g t c =
    ap (λ o. told (g.K.Entries.known c.args.entries.now) (copied (here c.args.around.now) o))
    (sym c.in-None.ensures.copy)
    ∙ told-done (g.K.Entries.known c.args.entries.now) None

pub counting-returns-in_err-value : goal.counting-returns-in_err-value
counting-returns-in_err-value g t c =
    let r = err_from_is_err_and c.from_residual.result c.from_residual.ensures.1 in
    rw (r.1, r.2) (stops _ (g.K.Entries.known c.args.entries.now) (tree_value (json c.args.tree.now)
    (here c.args.around.now)) _
    c.in_err-value.ensures)

pub counting-returns-in-Some : goal.counting-returns-in-Some
counting-returns-in-Some g t c =
    let p = g.K.Entries.known c.args.entries.now in
    goes p (tree_value (json c.args.tree.now) (here c.args.around.now)) _ _ c.in_ok-value.ensures
    ∙ told-done p (count_of (json c.in_ok-value.value)) ∙ ap finished (sym c.in-Some.ensures)

pub counting-returns-in-None : goal.counting-returns-in-None
counting-returns-in-None g t c =
    let p = g.K.Entries.known c.args.entries.now in
    goes p (tree_value (json c.args.tree.now) (here c.args.around.now)) _ _ c.in_ok-value.ensures
    ∙ told-done p (count_of (json c.in_ok-value.value)) ∙ ap finished (sym c.in-None.ensures)

pub copied-returns-in_err-count-in-Some : goal.copied-returns-in_err-count-in-Some
copied-returns-in_err-count-in-Some g t c =
    let r = err_from_is_err_and c.from_residual.result c.from_residual.ensures.1 in
    rw (r.1, r.2, sym c.in-Some.ensures.copy)
    (stops _ (g.K.Entries.known c.args.entries.now)
    (counting (tree_value (json c.in-Some.copy.count.now) (here c.args.around.now))) _
    c.in_err-count-in-Some.ensures)

pub copied-returns-in_err-values-in-Some : goal.copied-returns-in_err-values-in-Some
copied-returns-in_err-values-in-Some g t c =
    let r =
    err_from_is_err_and c.from_residual-in_err-values-in-Some.result
    c.from_residual-in_err-values-in-Some.ensures.1 in
    let p = g.K.Entries.known c.args.entries.now in
    rw (
      r.1,
      r.2,
      sym c.in-Some.ensures.copy,
      goes p (counting (tree_value (json c.in-Some.copy.count.now) (here c.args.around.now)))
          (counted (copying_of c.in-Some.copy) (here c.args.around.now)) c.in_ok-count-in-Some.count
          c.in_ok-count-in-Some.ensures,
    )
    (counted_stops p _ (copying_of c.in-Some.copy) (here c.args.around.now) c.in_ok-count-in-Some.count
    c.in_err-values-in-Some.ensures)

pub copied-returns-in_ok-values-in-Some : goal.copied-returns-in_ok-values-in-Some
copied-returns-in_ok-values-in-Some g t c =
    let p = g.K.Entries.known c.args.entries.now in
    let h = here c.args.around.now in
    let P : knowledge.Told Look Member → Type 0 = Gives member c.field_of.result in
    let whole = ap (λ o. told p (copied h o)) (sym c.in-Some.ensures.copy)
    ∙ goes p (counting (tree_value (json c.in-Some.copy.count.now) h)) (counted (copying_of c.in-Some.copy) h)
    c.in_ok-count-in-Some.count c.in_ok-count-in-Some.ensures in
    subst P
    (sym (whole
    ∙ counted_given p (copying_of c.in-Some.copy) h c.in_ok-count-in-Some.count _ c.in_ok-values-in-Some.ensures))
    c.field_of.ensures

-- ---- the turns of a loop

pub turns-loop-index-init : goal.turns-loop-index-init
turns-loop-index-init g t c = record {
  nearest = (0, c.in_ok-loops.ensures);
  values = no_turn_yet (g.K.Entries.known c.args.entries.now) (copying_of c.args.copy.now) (here c.args.around.now)
      (Some c.new.result) (ap Some c.new.ensures);
}

pub turns-returns-in-Err : goal.turns-returns-in-Err
turns-returns-in-Err g t c =
    let p = g.K.Entries.known c.args.entries.now in
    let near = c.as_slice.ensures.value
    ∙ c.turn_to.ensures
    (looping_of c.args.copy.now.name.now c.loop-index.invariant.nearest.0) c.args.around.now.loops.now
    c.loop-index.invariant.nearest.1 in
    let P : List Looping
    → Type 0 =
    λ ls. Stops c.in-Err.stop
    (outcome_told
    (told p
    (tree_value (json c.args.copy.now.input.now) (record (here c.args.around.now) { loops = ls })))) in
    rw c.stopped.ensures (index_stops p (copying_of c.args.copy.now) (here c.args.around.now) c.in-Err.stop
    c.args.count c.loop-index.index c.loop-index.values c.loop-index-test.true c.loop-index.invariant.values
    (subst P near c.in-Err.ensures.value))

pub turns-loop-index-preserved : goal.turns-loop-index-preserved
turns-loop-index-preserved g t c =
    let p = g.K.Entries.known c.args.entries.now in
    let turned =
    c.turn_to.ensures (looping_of c.args.copy.now.name.now c.loop-index.invariant.nearest.0) c.args.around.now.loops.now
    c.loop-index.invariant.nearest.1 in
    let near = c.as_slice.ensures.value ∙ turned in
    let P : List Looping
    → Type 0 =
    λ ls. outcome_told
    (told p
    (tree_value (json c.args.copy.now.input.now) (record (here c.args.around.now) { loops = ls })))
    ≡ knowledge.value (option_map json c.in-Ok.value) in
    record {
      nearest = (c.loop-index.index, turned);
      values = index_turn p (copying_of c.args.copy.now) (here c.args.around.now) c.args.count c.loop-index.index
          c.loop-index.values (option_map json c.in-Ok.value) c.loop-index-test.true
          c.loop-index.invariant.values (subst P near c.in-Ok.ensures.value)
          ∙ ap finished (sym c.in_ok-values-in-Ok.ensures);
    }

pub turns-returns : goal.turns-returns
turns-returns g t c =
    all_turns (g.K.Entries.known c.args.entries.now) (copying_of c.args.copy.now) (here c.args.around.now)
    c.args.count c.loop-index.index c.loop-index.values c.loop-index-test.false c.loop-index.invariant.values
