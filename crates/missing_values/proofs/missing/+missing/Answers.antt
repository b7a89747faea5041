use Rattle.std.proofs.Common.{◌≡◌, List, map, codes, true, false, Option, Some, None, sym, ap, ◌∙◌, subst, arith}
use Rattle.std.proofs.lemmas.Result.{err_from_is_err_and}
use Rattle.arm_value.specs.Json.{row, pairs}
use Rattle.arm_value.specs.View.{json, member}
use Rattle.arm_value.specs.Look.{is_same_folded}
use Rattle.arm_value.proofs.JsonLemmas.{item_nests, member_nests}
use Rattle.reading.specs.Knowledge.{Told, value, told}
use Rattle.arm_env.specs.Look.{Look}
use Rattle.arm_env.specs.Answer.{Gives}
use Rattle.arm_env.specs.Sight.{here}
use Rattle.arm_env.specs.declared.env.Looping.{Looping}
use Rattle.arm_env.proofs.Answers.{told-done}
use Rattle.arm_env.proofs.Words.{word_count, word_input}
use Rattle.arm_eval.specs.Trees.{tree_value, looping_of}
use Rattle.arm_eval.specs.Words.{copying_of}
use Rattle.missing_values.specs.Missing.{Path, missing_path, first_item, first_member}
use Rattle.missing_values.specs.Missing.{first_loop, first_loop_member, in_parts}
use Rattle.missing_values.specs.Words.{path_found}
use Rattle.missing_values.proofs.PathLemmas.{whole_there, whole_found, whole_stops, parts_stop}
use Rattle.missing_values.proofs.MissingLemmas.{path_is, further, found, nothing}
use Rattle.missing_values.proofs.MissingLemmas.{item_next, no_item, loop_next, no_loop}
use Rattle.missing_values.proofs.MissingLemmas.{member_next, no_member, loop_member_next, no_loop_member, all_left}
use Rattle.missing_values.proofs.MissingLemmas.{turn_further, turn_found, no_turn, input_counted, input_stops}
use Rattle.missing_values.proofs.MissingLemmas.{no_parts, no_loops, not_a_loop, no_such_loop}
use Rattle.missing_values.proofs.missing.+missing.Goals as goal

-- ---- a tree

pub missing_path-returns-in_err-there : goal.missing_path-returns-in_err-there
missing_path-returns-in_err-there g t c =
    let r = err_from_is_err_and c.from_residual.result c.from_residual.ensures.1 in
    let p = g.K.Entries.known c.args.entries.now in
    let j = json c.args.tree.now in
    let h = here c.args.around.now in
    rw (r.1, r.2, path_is j h) (whole_stops p _ (tree_value j h) (in_parts j h) c.in_err-there.ensures)

pub missing_path-returns-then-there : goal.missing_path-returns-then-there
missing_path-returns-then-there g t c =
    let p = g.K.Entries.known c.args.entries.now in
    let j = json c.args.tree.now in
    let h = here c.args.around.now in
    ap (told p) (path_is j h)
    ∙ whole_there p (tree_value j h) (in_parts j h) (c.in_ok-there.ensures ∙ ap value c.if-there.true)

pub missing_path-returns-in_err-found : goal.missing_path-returns-in_err-found
missing_path-returns-in_err-found g t c =
    let r = err_from_is_err_and c.from_residual-in_err-found.result c.from_residual-in_err-found.ensures.1 in
    let p = g.K.Entries.known c.args.entries.now in
    let j = json c.args.tree.now in
    let h = here c.args.around.now in
    rw (r.1, r.2, path_is j h) (parts_stop p _ (tree_value j h) (in_parts j h)
    (c.in_ok-there.ensures ∙ ap value c.if-there.false) c.in_err-found.ensures)

pub missing_path-returns : goal.missing_path-returns
missing_path-returns g t c =
    let p = g.K.Entries.known c.args.entries.now in
    let j = json c.args.tree.now in
    let h = here c.args.around.now in
    ap (told p) (path_is j h)
    ∙ whole_found p (tree_value j h) (in_parts j h) _ (c.in_ok-there.ensures ∙ ap value c.if-there.false)
    c.in_ok-found.ensures
    ∙ ap (λ path. value (Some path)) (sym c.or_whole.ensures)

pub in_parts-returns-in_default : goal.in_parts-returns-in_default
in_parts-returns-in_default g t c =
    let p = g.K.Entries.known c.args.entries.now in
    ap (told p) (no_parts (here c.args.around.now) c.args.tree.now c.in_default.not-Array c.in_default.not-Object)
    ∙ told-done p (Some None)

-- ---- items

pub first_item-returns-else-is_nowhere : goal.first_item-returns-else-is_nowhere
first_item-returns-else-is_nowhere g t c =
    let p = g.K.Entries.known c.args.entries.now in
    let h = here c.args.around.now in
    found p (first_item (row (map json c.args.trees.now)) h 0) c.below_item-found.result _ _ _
    (item_next h c.args.trees.now c.index-trees-place.result c.loop-place.place c.loop-place-test.true
    c.index-trees-place.is)
    (sym c.if-is_nowhere.false ∙ c.is_nowhere.ensures) (c.below_item-found.ensures p _ c.missing_path.ensures)
    c.loop-place.invariant

pub first_item-loop-place-preserved : goal.first_item-loop-place-preserved
first_item-loop-place-preserved g t c =
    let p = g.K.Entries.known c.args.entries.now in
    let h = here c.args.around.now in
    further p (first_item (row (map json c.args.trees.now)) h 0) c.below_item-found.result _ _ _
    (item_next h c.args.trees.now c.index-trees-place.result c.loop-place.place c.loop-place-test.true
    c.index-trees-place.is)
    (sym c.if-is_nowhere.true ∙ c.is_nowhere.ensures) (c.below_item-found.ensures p _ c.missing_path.ensures)
    c.loop-place.invariant

pub first_item-returns : goal.first_item-returns
first_item-returns g t c =
    let p = g.K.Entries.known c.args.entries.now in
    let h = here c.args.around.now in
    nothing p (first_item (row (map json c.args.trees.now)) h 0) _
    (no_item h c.args.trees.now c.loop-place.place c.loop-place-test.false) c.loop-place.invariant

pub first_item-missing_path-requires : goal.first_item-missing_path-requires
first_item-missing_path-requires g t c =
    λ κs within. (
      omega (
        arith,
        item_nests c.args.trees.now c.loop-place.place c.index-trees-place.result c.loop-place-test.true
            c.index-trees-place.is,
        c.decreases,
      ),
      within,
    )

-- ---- members

pub first_member-in_member-requires : goal.first_member-in_member-requires
first_member-in_member-requires g t c =
    λ κs within. (
      omega (
        arith,
        member_nests c.args.fields.now c.loop-field.field-index c.field-item.result c.loop-field-test.true
            c.field-item.is,
        c.decreases,
      ),
      within,
    )

pub first_member-returns-else-is_nowhere : goal.first_member-returns-else-is_nowhere
first_member-returns-else-is_nowhere g t c =
    let p = g.K.Entries.known c.args.entries.now in
    let h = here c.args.around.now in
    found p (first_member (pairs (map member c.args.fields.now)) h) c.below_member-found.result _ _ _
    (member_next h c.args.fields.now c.field-item.result c.loop-field.field-index c.loop-field-test.true
    c.field-item.is)
    (sym c.if-is_nowhere.false ∙ c.is_nowhere.ensures) (c.below_member-found.ensures p _ c.in_member.ensures)
    c.loop-field.invariant

pub first_member-loop-field-preserved : goal.first_member-loop-field-preserved
first_member-loop-field-preserved g t c =
    let p = g.K.Entries.known c.args.entries.now in
    let h = here c.args.around.now in
    further p (first_member (pairs (map member c.args.fields.now)) h) c.below_member-found.result _ _ _
    (member_next h c.args.fields.now c.field-item.result c.loop-field.field-index c.loop-field-test.true
    c.field-item.is)
    (sym c.if-is_nowhere.true ∙ c.is_nowhere.ensures) (c.below_member-found.ensures p _ c.in_member.ensures)
    c.loop-field.invariant

pub first_member-returns : goal.first_member-returns
first_member-returns g t c =
    let p = g.K.Entries.known c.args.entries.now in
    let h = here c.args.around.now in
    nothing p (first_member (pairs (map member c.args.fields.now)) h) _
    (no_member h c.args.fields.now c.loop-field.field-index c.loop-field-test.false) c.loop-field.invariant

-- ---- loops

pub in_copy-returns-in_default : goal.in_copy-returns-in_default
in_copy-returns-in_default g t c =
    let p = g.K.Entries.known c.args.entries.now in
    ap (told p) (no_loops (here c.args.around.now) c.args.tree.now c.in_default.not-Array) ∙ told-done p (Some None)

pub in_loop-returns-in_default : goal.in_loop-returns-in_default
in_loop-returns-in_default g t c =
    let p = g.K.Entries.known c.args.entries.now in
    ap (told p) (not_a_loop (here c.args.around.now) c.args.tree.now c.in_default.not-Object)
    ∙ told-done p (Some None)

pub in_loop-returns-in-None : goal.in_loop-returns-in-None
in_loop-returns-in-None g t c =
    let p = g.K.Entries.known c.args.entries.now in
    ap (told p) (no_such_loop (here c.args.around.now) c.args.tree.now c.in-Object.fields c.in-Object.is
    c.in-None.ensures.copy)
    ∙ told-done p (Some None)

pub first_loop-in_loop-requires : goal.first_loop-in_loop-requires
first_loop-in_loop-requires g t c =
    λ κs within. (
      omega (
        arith,
        item_nests c.args.trees.now c.loop-place.place c.index-trees-place.result c.loop-place-test.true
            c.index-trees-place.is,
        c.decreases,
      ),
      within,
    )

pub first_loop-returns-else-is_nowhere : goal.first_loop-returns-else-is_nowhere
first_loop-returns-else-is_nowhere g t c =
    let p = g.K.Entries.known c.args.entries.now in
    let h = here c.args.around.now in
    found p (first_loop (row (map json c.args.trees.now)) h 0) c.below_item-found.result _ _ _
    (loop_next h c.args.trees.now c.index-trees-place.result c.loop-place.place c.loop-place-test.true
    c.index-trees-place.is)
    (sym c.if-is_nowhere.false ∙ c.is_nowhere.ensures) (c.below_item-found.ensures p _ c.in_loop.ensures)
    c.loop-place.invariant

pub first_loop-loop-place-preserved : goal.first_loop-loop-place-preserved
first_loop-loop-place-preserved g t c =
    let p = g.K.Entries.known c.args.entries.now in
    let h = here c.args.around.now in
    further p (first_loop (row (map json c.args.trees.now)) h 0) c.below_item-found.result _ _ _
    (loop_next h c.args.trees.now c.index-trees-place.result c.loop-place.place c.loop-place-test.true
    c.index-trees-place.is)
    (sym c.if-is_nowhere.true ∙ c.is_nowhere.ensures) (c.below_item-found.ensures p _ c.in_loop.ensures)
    c.loop-place.invariant

pub first_loop-returns : goal.first_loop-returns
first_loop-returns g t c =
    let p = g.K.Entries.known c.args.entries.now in
    let h = here c.args.around.now in
    nothing p (first_loop (row (map json c.args.trees.now)) h 0) _
    (no_loop h c.args.trees.now c.loop-place.place c.loop-place-test.false) c.loop-place.invariant

-- ---- members of a loop

pub first_loop_member-in_loop_member-inside-requires : goal.first_loop_member-in_loop_member-inside-requires
first_loop_member-in_loop_member-inside-requires g t c =
    λ κs within. (
      omega (
        arith,
        member_nests c.args.fields.now c.loop-field.field-index c.field-item.result c.loop-field-test.true
            c.field-item.is,
        c.decreases,
      ),
      within,
    )

pub first_loop_member-returns-else-is_nowhere : goal.first_loop_member-returns-else-is_nowhere
first_loop_member-returns-else-is_nowhere g t c =
    let p = g.K.Entries.known c.args.entries.now in
    let h = here c.args.around.now in
    let copy = copying_of c.args.copy.now in
    found p (first_loop_member copy (pairs (map member c.args.fields.now)) h) c.below_member-found.result _ _ _
    (loop_member_next h copy c.args.fields.now c.field-item.result c.loop-field.field-index c.loop-field-test.true
    c.field-item.is)
    (sym c.if-is_nowhere.false ∙ c.is_nowhere.ensures)
    (c.below_member-found.ensures p _ c.in_loop_member-inside.ensures)
    c.loop-field.invariant

pub first_loop_member-loop-field-preserved : goal.first_loop_member-loop-field-preserved
first_loop_member-loop-field-preserved g t c =
    let p = g.K.Entries.known c.args.entries.now in
    let h = here c.args.around.now in
    let copy = copying_of c.args.copy.now in
    further p (first_loop_member copy (pairs (map member c.args.fields.now)) h) c.below_member-found.result _ _ _
    (loop_member_next h copy c.args.fields.now c.field-item.result c.loop-field.field-index c.loop-field-test.true
    c.field-item.is)
    (sym c.if-is_nowhere.true ∙ c.is_nowhere.ensures)
    (c.below_member-found.ensures p _ c.in_loop_member-inside.ensures)
    c.loop-field.invariant

pub first_loop_member-returns : goal.first_loop_member-returns
first_loop_member-returns g t c =
    let p = g.K.Entries.known c.args.entries.now in
    let h = here c.args.around.now in
    nothing p (first_loop_member (copying_of c.args.copy.now) (pairs (map member c.args.fields.now)) h) _
    (no_loop_member h (copying_of c.args.copy.now) c.args.fields.now c.loop-field.field-index
    c.loop-field-test.false) c.loop-field.invariant

pub in_loop_member-returns-then-equals_ignore_case : goal.in_loop_member-returns-then-equals_ignore_case
in_loop_member-returns-then-equals_ignore_case g t c =
    let n = c.args.field.now.name in
    let one : is_same_folded (codes "count") n ≡ true =
    ap (λ w. is_same_folded w n) (sym word_count) ∙ sym c.equals_ignore_case.ensures ∙ c.if-equals_ignore_case.true in
    rw one c.missing_path.ensures

pub in_loop_member-returns-then-equals_ignore_case-2 : goal.in_loop_member-returns-then-equals_ignore_case-2
in_loop_member-returns-then-equals_ignore_case-2 g t c =
    let n = c.args.field.now.name in
    let one : is_same_folded (codes "count") n ≡ false =
    ap (λ w. is_same_folded w n) (sym word_count) ∙ sym c.equals_ignore_case.ensures ∙ c.if-equals_ignore_case.false in
    let two : is_same_folded (codes "input") n ≡ true =
    ap (λ w. is_same_folded w n) (sym word_input) ∙ sym c.equals_ignore_case-else-equals_ignore_case.ensures
    ∙ c.if-equals_ignore_case-2.true in
    rw (one, two) c.in_input.ensures

pub in_loop_member-returns-else-equals_ignore_case-2 : goal.in_loop_member-returns-else-equals_ignore_case-2
in_loop_member-returns-else-equals_ignore_case-2 g t c =
    let n = c.args.field.now.name in
    let one : is_same_folded (codes "count") n ≡ false =
    ap (λ w. is_same_folded w n) (sym word_count) ∙ sym c.equals_ignore_case.ensures ∙ c.if-equals_ignore_case.false in
    let two : is_same_folded (codes "input") n ≡ false =
    ap (λ w. is_same_folded w n) (sym word_input) ∙ sym c.equals_ignore_case-else-equals_ignore_case.ensures
    ∙ c.if-equals_ignore_case-2.false in
    rw (one, two) (told-done (g.K.Entries.known c.args.entries.now) (Some None))

-- ---- the input of a loop

pub in_input-returns-in_err-count : goal.in_input-returns-in_err-count
in_input-returns-in_err-count g t c =
    let r = err_from_is_err_and c.from_residual.result c.from_residual.ensures.1 in
    rw (r.1, r.2) (input_stops (g.K.Entries.known c.args.entries.now) (missing_path (json c.args.input.now))
    (copying_of c.args.copy.now) (here c.args.around.now) _ c.in_err-count.ensures)

pub in_input-returns-in-Some : goal.in_input-returns-in-Some
in_input-returns-in-Some g t c =
    let p = g.K.Entries.known c.args.entries.now in
    let P : Told Look (Option Path) → Type 0 = Gives path_found c.first_turn.result in
    subst P
    (sym (input_counted p (missing_path (json c.args.input.now)) (copying_of c.args.copy.now)
    (here c.args.around.now) (Some c.in-Some.count) (c.in_ok-count.ensures ∙ ap value c.in-Some.is)))
    c.first_turn.ensures

pub in_input-returns-in-None : goal.in_input-returns-in-None
in_input-returns-in-None g t c =
    let p = g.K.Entries.known c.args.entries.now in
    input_counted p (missing_path (json c.args.input.now)) (copying_of c.args.copy.now)
    (here c.args.around.now) None (c.in_ok-count.ensures ∙ ap value c.in-None.is) ∙ told-done p (Some None)

-- ---- its turns

pub first_turn-loop-index-init : goal.first_turn-loop-index-init
first_turn-loop-index-init g t c = record {
  nearest = (0, c.in_ok-loops.ensures);
  turns = all_left (g.K.Entries.known c.args.entries.now) (missing_path (json c.args.input.now)) c.args.name.now
      (here c.args.around.now) c.args.count;
}

pub first_turn-returns-else-is_nowhere : goal.first_turn-returns-else-is_nowhere
first_turn-returns-else-is_nowhere g t c =
    let p = g.K.Entries.known c.args.entries.now in
    let near = c.as_slice.ensures.value
    ∙ c.turn_to.ensures (looping_of c.args.name.now c.loop-index.invariant.nearest.0) c.args.around.now.loops.now
    c.loop-index.invariant.nearest.1 in
    let P : List Looping → Type 0 = λ ls. Gives path_found c.missing_path-found.result
    (told p (missing_path (json c.args.input.now) (record (here c.args.around.now) { loops = ls }))) in
    turn_found p (missing_path (json c.args.input.now)) c.args.name.now (here c.args.around.now) c.loop-index.index
    c.args.count c.loop-index.invariant.turns c.loop-index-test.true c.missing_path-found.result
    (sym c.if-is_nowhere.false ∙ c.is_nowhere.ensures) (subst P near c.missing_path-found.ensures)

pub first_turn-loop-index-preserved : goal.first_turn-loop-index-preserved
first_turn-loop-index-preserved g t c =
    let p = g.K.Entries.known c.args.entries.now in
    let turned =
    c.turn_to.ensures (looping_of c.args.name.now c.loop-index.invariant.nearest.0) c.args.around.now.loops.now
    c.loop-index.invariant.nearest.1 in
    let near = c.as_slice.ensures.value ∙ turned in
    let P : List Looping → Type 0 = λ ls. Gives path_found c.missing_path-found.result
    (told p (missing_path (json c.args.input.now) (record (here c.args.around.now) { loops = ls }))) in
    record {
      nearest = (c.loop-index.index, turned);
      turns = turn_further p (missing_path (json c.args.input.now)) c.args.name.now (here c.args.around.now)
          c.loop-index.index c.args.count c.loop-index.invariant.turns c.loop-index-test.true
          c.missing_path-found.result
          (sym c.if-is_nowhere.true ∙ c.is_nowhere.ensures) (subst P near c.missing_path-found.ensures);
    }

pub first_turn-returns : goal.first_turn-returns
first_turn-returns g t c =
    no_turn (g.K.Entries.known c.args.entries.now) (missing_path (json c.args.input.now)) c.args.name.now
    (here c.args.around.now) c.loop-index.index c.args.count c.loop-index.invariant.turns c.loop-index-test.false
