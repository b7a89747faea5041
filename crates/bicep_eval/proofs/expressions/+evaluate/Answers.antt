use Rattle.std.proofs.Common.{ℕ, ◌+◌, ◌-◌, ◌∷◌, List, map, drop, ap, sym, subst, ◌∙◌, Some, None, Bool, true, false}
use Rattle.std.specs.Prelude.{Result, Err}
use Rattle.std.proofs.lemmas.List.{drop_all}
use Rattle.arm_value.specs.View.{json, member}
use Rattle.arm_value.specs.declared.value.Value.{Value}
use Rattle.reading.specs.Knowledge.{told}
use Rattle.bicep_resolved.specs.Source as tree
use Rattle.bicep_resolved.specs.View.{source_of, reach_of, value_of, piece_of, property_of, sources, pieces}
use Rattle.bicep_resolved.specs.View.{properties, row_name}
use Rattle.bicep_resolved.proofs.ViewLemmas.{source_of-Literal, source_of-Interpolated, source_of-Object}
use Rattle.bicep_resolved.proofs.ViewLemmas.{source_of-Array, source_of-Instance}
use Rattle.bicep_resolved.proofs.ViewLemmas.{source_of-Member, source_of-Index, source_of-Prefix}
use Rattle.bicep_resolved.proofs.ViewLemmas.{source_of-Binary, source_of-Conditional}
use Rattle.bicep_resolved.proofs.ViewLemmas.{reach_of-Element, value_of-Each}
use Rattle.bicep_resolved.proofs.ViewLemmas.{piece_of-is, property_of-is, loop_of-is}
use Rattle.bicep_meaning.specs.Rows.{all, by_both, operator_value, conditional_value, chosen, coalesce_value}
use Rattle.bicep_meaning.specs.Around.{Frame, run_at, runs}
use Rattle.bicep_meaning.specs.Meaning as m
use Rattle.bicep_outcomes.specs.declared.stop.Stop.{Stop}
use Rattle.bicep_outcomes.specs.declared.stop.Stop.TheVariants.{NoValue}
use Rattle.bicep_outcomes.specs.Outcomes.{Gives, all_texts, all_json, all_members, whole}
use Rattle.bicep_outcomes.proofs.OutcomeLemmas.{told-done}
use Rattle.bicep_outcomes.proofs.ListLemmas.{follow, seen, follow-none, turned, turn_stops, all_given}
use Rattle.bicep_eval.specs.Values as spec
use Rattle.bicep_outcomes.specs.declared.loops.Turn.{Turn}
use Rattle.bicep_surroundings.specs.Sight.{AreSeen}
use Rattle.bicep_surroundings.proofs.ReadLemmas.{of_equal, capped_reads, then_reads, both_reads, done_gives}
use Rattle.bicep_surroundings.proofs.ReadLemmas.{coalesce_found, coalesce_null, coalesce_stops, truth_stops}
use Rattle.bicep_surroundings.proofs.ReadLemmas.{truth_goes}
use Rattle.bicep_surroundings.proofs.SeenLemmas.{inner_seen, element_seen, copied_gives}
use Rattle.bicep_eval.proofs.PartLemmas.{texts_given, at_tree, at_list, at_reach, at_reading, of_part}
use Rattle.bicep_eval.proofs.PartLemmas.{array_reads, object_reads}
use Rattle.bicep_eval.proofs.PartLemmas.{counted_ok, looped_ok, looped_stops, called_reads, coalesce_none}
use Rattle.bicep_eval.proofs.PartLemmas.{coalesce_some}
use Rattle.bicep_eval.proofs.PartLemmas.{strict_is, coalesce_by, or_by, and_by, at_part}
use Rattle.bicep_eval.proofs.CoalesceLemmas.{first_found, first_null, first_stops, first_ends}
use Rattle.bicep_eval.proofs.RunLemmas.{runs_left, no_runs, turn_seen}
use Rattle.bicep_eval.proofs.TruthLemmas.{decided_second, decided_first, decided_stops}
use Rattle.bicep_eval.proofs.expressions.+evaluate.Goals as goal
use Rattle.foundation.proofs.Lists.{next_item}

pub evaluate-returns : goal.evaluate-returns
evaluate-returns g t c =
    let s = g.K.Surroundings.sight c.args.around.now in
    λ fs h. capped_reads s.known s.cell c.bare.result c.capped.result (spec.bare s (source_of c.args.e.now) fs)
    (c.bare.ensures fs h) c.capped.ensures

pub values-loop-item-init : goal.values-loop-item-init
values-loop-item-init g t c =
    let s = g.K.Surroundings.sight c.args.around.now in
    λ fs h.
    let all = told s.known (spec.values s (sources (map source_of c.args.items.now)) fs) in
    follow-none all ∙ ap (λ xs. follow (Some (map json xs)) all) (sym c.new.ensures.items)

pub values-returns-in-Err : goal.values-returns-in-Err
values-returns-in-Err g t c =
    let s = g.K.Surroundings.sight c.args.around.now in
    let i = c.loop-item.item-index in
    λ fs h. turn_stops s.cell json s.known c.loop-item.all c.evaluate-value.result c.in-Err.stop
    (told s.known (spec.values s (sources (map source_of c.args.items.now)) fs))
    (spec.value s (source_of c.item-item.result) fs)
    (m.values s.here s.around (sources (map source_of (drop (i + 1) c.args.items.now))) fs)
    (c.loop-item.invariant fs h
    ∙ ap (λ xs. follow (seen json c.loop-item.all) (told s.known (spec.values s (sources (map source_of xs)) fs)))
    (next_item c.args.items.now i c.item-item.result c.loop-item-test.true c.item-item.is))
    (c.evaluate-value.ensures fs h) c.in-Err.ensures

pub values-loop-item-preserved : goal.values-loop-item-preserved
values-loop-item-preserved g t c =
    let s = g.K.Surroundings.sight c.args.around.now in
    let i = c.loop-item.item-index in
    λ fs h. turned s.cell json s.known c.loop-item.all c.evaluate-value.result c.in-Ok.more
    (told s.known (spec.values s (sources (map source_of c.args.items.now)) fs))
    (spec.value s (source_of c.item-item.result) fs)
    (m.values s.here s.around (sources (map source_of (drop (i + 1) c.args.items.now))) fs)
    (c.loop-item.invariant fs h
    ∙ ap (λ xs. follow (seen json c.loop-item.all) (told s.known (spec.values s (sources (map source_of xs)) fs)))
    (next_item c.args.items.now i c.item-item.result c.loop-item-test.true c.item-item.is))
    (c.evaluate-value.ensures fs h) c.in-Ok.ensures

pub values-returns : goal.values-returns
values-returns g t c =
    let s = g.K.Surroundings.sight c.args.around.now in
    λ fs h. rw c.whole.ensures
    (all_given s.cell json s.known c.loop-item.all
    (told s.known (spec.values s (sources (map source_of c.args.items.now)) fs))
    (c.loop-item.invariant fs h
    ∙ ap (λ xs. follow (seen json c.loop-item.all) (told s.known (spec.values s (sources (map source_of xs)) fs)))
    (drop_all c.loop-item.item-index c.args.items.now c.loop-item-test.false)))

pub holes-loop-item-init : goal.holes-loop-item-init
holes-loop-item-init g t c =
    let s = g.K.Surroundings.sight c.args.around.now in
    λ fs h.
    let all = told s.known (spec.texts s (pieces (map piece_of c.args.items.now)) fs) in
    follow-none all ∙ ap (λ xs. follow (Some (map (λ (x : List ℕ). x) xs)) all) (sym c.new.ensures.items)

pub holes-returns-in-Err : goal.holes-returns-in-Err
holes-returns-in-Err g t c =
    let s = g.K.Surroundings.sight c.args.around.now in
    let i = c.loop-item.item-index in
    λ fs h. turn_stops s.cell (λ (x : List ℕ). x) s.known c.loop-item.all c.hole_of-text.result c.in-Err.stop
    (told s.known (spec.texts s (pieces (map piece_of c.args.items.now)) fs))
    (spec.hole s (piece_of c.item-item.result) fs)
    (m.texts s.here s.around (pieces (map piece_of (drop (i + 1) c.args.items.now))) fs)
    (c.loop-item.invariant fs h
    ∙ ap (λ xs. follow (seen (λ (x : List ℕ). x) c.loop-item.all) (told s.known (spec.texts s (pieces
    (map piece_of xs)) fs)))
    (next_item c.args.items.now i c.item-item.result c.loop-item-test.true c.item-item.is))
    (c.hole_of-text.ensures fs h) c.in-Err.ensures

pub holes-loop-item-preserved : goal.holes-loop-item-preserved
holes-loop-item-preserved g t c =
    let s = g.K.Surroundings.sight c.args.around.now in
    let i = c.loop-item.item-index in
    λ fs h. turned s.cell (λ (x : List ℕ). x) s.known c.loop-item.all c.hole_of-text.result c.in-Ok.more
    (told s.known (spec.texts s (pieces (map piece_of c.args.items.now)) fs))
    (spec.hole s (piece_of c.item-item.result) fs)
    (m.texts s.here s.around (pieces (map piece_of (drop (i + 1) c.args.items.now))) fs)
    (c.loop-item.invariant fs h
    ∙ ap (λ xs. follow (seen (λ (x : List ℕ). x) c.loop-item.all) (told s.known (spec.texts s (pieces
    (map piece_of xs)) fs)))
    (next_item c.args.items.now i c.item-item.result c.loop-item-test.true c.item-item.is))
    (c.hole_of-text.ensures fs h) c.in-Ok.ensures

pub holes-returns : goal.holes-returns
holes-returns g t c =
    let s = g.K.Surroundings.sight c.args.around.now in
    λ fs h. rw c.whole.ensures
    (texts_given s.cell (whole c.loop-item.all) _ (all_given s.cell (λ (x : List ℕ). x) s.known c.loop-item.all
    (told s.known (spec.texts s (pieces (map piece_of c.args.items.now)) fs))
    (c.loop-item.invariant fs h
    ∙ ap (λ xs. follow (seen (λ (x : List ℕ). x) c.loop-item.all) (told s.known (spec.texts s (pieces
    (map piece_of xs)) fs)))
    (drop_all c.loop-item.item-index c.args.items.now c.loop-item-test.false))))

pub members-loop-item-init : goal.members-loop-item-init
members-loop-item-init g t c =
    let s = g.K.Surroundings.sight c.args.around.now in
    λ fs h.
    let all = told s.known (spec.members s (properties (map property_of c.args.items.now)) fs) in
    follow-none all ∙ ap (λ xs. follow (Some (map member xs)) all) (sym c.new.ensures.items)

pub members-returns-in-Err : goal.members-returns-in-Err
members-returns-in-Err g t c =
    let s = g.K.Surroundings.sight c.args.around.now in
    let i = c.loop-item.item-index in
    λ fs h. turn_stops s.cell member s.known c.loop-item.all c.member_of-field.result c.in-Err.stop
    (told s.known (spec.members s (properties (map property_of c.args.items.now)) fs))
    (spec.member s (property_of c.item-item.result) fs)
    (m.members s.here s.around (properties (map property_of (drop (i + 1) c.args.items.now))) fs)
    (c.loop-item.invariant fs h
    ∙ ap (λ xs. follow (seen member c.loop-item.all) (told s.known (spec.members s (properties
    (map property_of xs)) fs)))
    (next_item c.args.items.now i c.item-item.result c.loop-item-test.true c.item-item.is))
    (c.member_of-field.ensures fs h) c.in-Err.ensures

pub members-loop-item-preserved : goal.members-loop-item-preserved
members-loop-item-preserved g t c =
    let s = g.K.Surroundings.sight c.args.around.now in
    let i = c.loop-item.item-index in
    λ fs h. turned s.cell member s.known c.loop-item.all c.member_of-field.result c.in-Ok.more
    (told s.known (spec.members s (properties (map property_of c.args.items.now)) fs))
    (spec.member s (property_of c.item-item.result) fs)
    (m.members s.here s.around (properties (map property_of (drop (i + 1) c.args.items.now))) fs)
    (c.loop-item.invariant fs h
    ∙ ap (λ xs. follow (seen member c.loop-item.all) (told s.known (spec.members s (properties
    (map property_of xs)) fs)))
    (next_item c.args.items.now i c.item-item.result c.loop-item-test.true c.item-item.is))
    (c.member_of-field.ensures fs h) c.in-Ok.ensures

pub members-returns : goal.members-returns
members-returns g t c =
    let s = g.K.Surroundings.sight c.args.around.now in
    λ fs h. rw c.whole.ensures
    (all_given s.cell member s.known c.loop-item.all
    (told s.known (spec.members s (properties (map property_of c.args.items.now)) fs))
    (c.loop-item.invariant fs h
    ∙ ap (λ xs. follow (seen member c.loop-item.all) (told s.known (spec.members s (properties
    (map property_of xs)) fs)))
    (drop_all c.loop-item.item-index c.args.items.now c.loop-item-test.false)))

-- ---- an expression, by its kind

pub bare-returns-in-Literal : goal.bare-returns-in-Literal
bare-returns-in-Literal g t c =
    let s = g.K.Surroundings.sight c.args.around.now in
    at_tree s (spec.bare s) c.args.turns.now json c.literal.result _ _
    (ap source_of c.in-Literal.is ∙ source_of-Literal _ _)
    (λ fs h. done_gives s.known s.cell json _ c.literal.result c.literal.ensures)

pub bare-returns-in-Interpolated : goal.bare-returns-in-Interpolated
bare-returns-in-Interpolated g t c =
    let s = g.K.Surroundings.sight c.args.around.now in
    at_tree s (spec.bare s) c.args.turns.now json c.interpolated.result _ _
    (ap source_of c.in-Interpolated.is ∙ source_of-Interpolated _ _ _)
    (λ fs h. then_reads s.known s.cell all_texts json _ c.holes-texts.result c.interpolated.result _
    (at_list (λ ps. spec.texts s (pieces (map piece_of ps))) s c.args.turns.now all_texts c.holes-texts.result _ _
    c.as_slice.ensures.value c.holes-texts.ensures fs h) c.interpolated.ensures)

pub bare-returns-in-Object : goal.bare-returns-in-Object
bare-returns-in-Object g t c =
    let s = g.K.Surroundings.sight c.args.around.now in
    at_tree s (spec.bare s) c.args.turns.now json c.object.result _ _
    (ap source_of c.in-Object.is ∙ source_of-Object _ _)
    (λ fs h. object_reads s _ fs c.members-fields.result c.object.result
    (at_list (λ ps. spec.members s (properties (map property_of ps))) s c.args.turns.now all_members
    c.members-fields.result _ _ c.as_slice-in-Object.ensures.value c.members-fields.ensures fs h) c.object.ensures)

pub bare-returns-in-Array : goal.bare-returns-in-Array
bare-returns-in-Array g t c =
    let s = g.K.Surroundings.sight c.args.around.now in
    at_tree s (spec.bare s) c.args.turns.now json c.array.result _ _
    (ap source_of c.in-Array.is ∙ source_of-Array _ _)
    (λ fs h. array_reads s _ fs c.values.result c.array.result
    (at_list (λ es. spec.values s (sources (map source_of es))) s c.args.turns.now all_json c.values.result _ _
    c.as_slice-in-Array.ensures.value c.values.ensures fs h) c.array.ensures)

pub bare-returns-in-Instance : goal.bare-returns-in-Instance
bare-returns-in-Instance g t c =
    let s = g.K.Surroundings.sight c.args.around.now in
    at_tree s (spec.bare s) c.args.turns.now json (Err NoValue) _ _
    (ap source_of c.in-Instance.is ∙ source_of-Instance _) (λ fs h. told-done s.known None)

pub bare-returns-in-Member : goal.bare-returns-in-Member
bare-returns-in-Member g t c =
    let s = g.K.Surroundings.sight c.args.around.now in
    at_tree s (spec.bare s) c.args.turns.now json c.member.result _ _
    (ap source_of c.in-Member.is ∙ source_of-Member _ _ _)
    (λ fs h. then_reads s.known s.cell json json _ c.evaluate-value.result c.member.result _
    (of_part s c.args.turns.now c.evaluate-value.result _ _ c.deref.ensures c.evaluate-value.ensures fs h)
    c.member.ensures)

pub bare-returns-in-Index : goal.bare-returns-in-Index
bare-returns-in-Index g t c =
    let s = g.K.Surroundings.sight c.args.around.now in
    at_tree s (spec.bare s) c.args.turns.now json c.indexed.result _ _
    (ap source_of c.in-Index.is ∙ source_of-Index _ _ _)
    (λ fs h. both_reads s.known s.cell _ c.evaluate-value-in-Index.result c.evaluate-index.result c.indexed.result
    c.pair.result _ _
    (of_part s c.args.turns.now c.evaluate-value-in-Index.result _ _ c.deref-in-Index.ensures
    c.evaluate-value-in-Index.ensures fs h)
    (of_part s c.args.turns.now c.evaluate-index.result _ _ c.deref-in-Index-2.ensures c.evaluate-index.ensures fs h)
    c.pair.ensures c.indexed.ensures)

pub bare-returns-in-Prefix : goal.bare-returns-in-Prefix
bare-returns-in-Prefix g t c =
    let s = g.K.Surroundings.sight c.args.around.now in
    at_tree s (spec.bare s) c.args.turns.now json c.prefixed.result _ _
    (ap source_of c.in-Prefix.is ∙ source_of-Prefix _ _ _)
    (λ fs h. then_reads s.known s.cell json json _ c.evaluate-value-in-Prefix.result c.prefixed.result _
    (of_part s c.args.turns.now c.evaluate-value-in-Prefix.result _ _ c.deref-in-Prefix.ensures
    c.evaluate-value-in-Prefix.ensures fs h) c.prefixed.ensures)

pub bare-returns-in-Binary : goal.bare-returns-in-Binary
bare-returns-in-Binary g t c =
    let s = g.K.Surroundings.sight c.args.around.now in
    let x = spec.value s (source_of c.in-Binary.left.value) in
    at_tree s (spec.bare s) c.args.turns.now json c.binary.result _ _ (ap source_of c.in-Binary.is
    ∙ source_of-Binary _ _ _)
    (at_part s (spec.binary s c.in-Binary.operator x) c.args.turns.now c.binary.result _ _ c.deref-in-Binary-2.ensures
    (c.binary.ensures x
    (of_part s c.args.turns.now c.evaluate-first.result _ _ c.deref-in-Binary.ensures c.evaluate-first.ensures)))

pub bare-returns-in-Ok-true : goal.bare-returns-in-Ok-true
bare-returns-in-Ok-true g t c =
    let s = g.K.Surroundings.sight c.args.around.now in
    let q = spec.value s (source_of c.in-Conditional.condition.value) in
    let x = spec.value s (source_of c.in-Conditional.yes.value) in
    let y = spec.value s (source_of c.in-Conditional.no.value) in
    at_tree s (spec.bare s) c.args.turns.now json c.evaluate-in-Ok-true.result _ _
    (ap source_of c.in-Conditional.is ∙ source_of-Conditional _ _ _)
    (λ fs h. of_equal s.known s.cell json c.evaluate-in-Ok-true.result (told s.known (conditional_value (q fs) (x fs)
    (y fs)))
    (told s.known (x fs))
    (truth_goes s.known s.cell c.evaluate.result c.in-Ok-true.field-0 (q fs) (x fs) (y fs)
    (of_part s c.args.turns.now c.evaluate.result _ _ c.deref-in-Conditional.ensures c.evaluate.ensures fs h)
    c.in-Ok-true.ensures
    ∙ ap (λ (b : Bool). told s.known (chosen (Some b) (x fs) (y fs))) c.in-Ok-true.field-0-test)
    (of_part s c.args.turns.now c.evaluate-in-Ok-true.result _ _ c.deref-in-Ok-true.ensures
    c.evaluate-in-Ok-true.ensures fs h))

pub bare-returns-in-Ok-false : goal.bare-returns-in-Ok-false
bare-returns-in-Ok-false g t c =
    let s = g.K.Surroundings.sight c.args.around.now in
    let q = spec.value s (source_of c.in-Conditional.condition.value) in
    let x = spec.value s (source_of c.in-Conditional.yes.value) in
    let y = spec.value s (source_of c.in-Conditional.no.value) in
    at_tree s (spec.bare s) c.args.turns.now json c.evaluate-in-Ok-false.result _ _
    (ap source_of c.in-Conditional.is ∙ source_of-Conditional _ _ _)
    (λ fs h. of_equal s.known s.cell json c.evaluate-in-Ok-false.result (told s.known (conditional_value (q fs)
    (x fs) (y fs)))
    (told s.known (y fs))
    (truth_goes s.known s.cell c.evaluate.result c.in-Ok-false.field-0 (q fs) (x fs) (y fs)
    (of_part s c.args.turns.now c.evaluate.result _ _ c.deref-in-Conditional.ensures c.evaluate.ensures fs h)
    c.in-Ok-false.ensures
    ∙ ap (λ (b : Bool). told s.known (chosen (Some b) (x fs) (y fs))) c.in-Ok-false.field-0-test)
    (of_part s c.args.turns.now c.evaluate-in-Ok-false.result _ _ c.deref-in-Ok-false.ensures
    c.evaluate-in-Ok-false.ensures fs h))

pub bare-returns-in-Err : goal.bare-returns-in-Err
bare-returns-in-Err g t c =
    let s = g.K.Surroundings.sight c.args.around.now in
    let q = spec.value s (source_of c.in-Conditional.condition.value) in
    let x = spec.value s (source_of c.in-Conditional.yes.value) in
    let y = spec.value s (source_of c.in-Conditional.no.value) in
    at_tree s (spec.bare s) c.args.turns.now json (Err c.in-Err.stop) _ _
    (ap source_of c.in-Conditional.is ∙ source_of-Conditional _ _ _)
    (λ fs h. truth_stops s.known s.cell c.evaluate.result c.in-Err.stop (q fs) (x fs) (y fs)
    (of_part s c.args.turns.now c.evaluate.result _ _ c.deref-in-Conditional.ensures c.evaluate.ensures fs h)
    c.in-Err.ensures)

-- ---- parts

pub hole_of-returns : goal.hole_of-returns
hole_of-returns g t c =
    let s = g.K.Surroundings.sight c.args.around.now in
    at_tree s (spec.hole s) c.args.turns.now (λ (x : List ℕ). x) c.hole.result _ _ (piece_of-is c.args.piece.now)
    (λ fs h. then_reads s.known s.cell json (λ (x : List ℕ). x) _ c.evaluate-value.result c.hole.result _
    (c.evaluate-value.ensures fs h) c.hole.ensures)

pub member_of-returns : goal.member_of-returns
member_of-returns g t c =
    let s = g.K.Surroundings.sight c.args.around.now in
    at_tree s (spec.member s) c.args.turns.now member c.member.result _ _ (property_of-is c.args.property.now)
    (λ fs h. then_reads s.known s.cell json member _ c.evaluate_value-value.result c.member.result _
    (c.evaluate_value-value.ensures fs h) c.member.ensures)

pub evaluate_value-returns-in-Each : goal.evaluate_value-returns-in-Each
evaluate_value-returns-in-Each g t c =
    let s = g.K.Surroundings.sight c.args.around.now in
    at_tree s (spec.value_of s) c.args.turns.now json c.capped.result _ _
    (ap value_of c.in-Each.is ∙ value_of-Each _ _
    ∙ ap (λ l. tree.each l (source_of c.in-Each.body)) (loop_of-is c.in-Each.each))
    (λ fs h. capped_reads s.known s.cell c.looped.result c.capped.result _
    (c.looped.ensures (spec.value s (source_of c.in-Each.each.over)) c.evaluate-over.ensures fs h) c.capped.ensures)

-- ---- loops

pub runs-loop-index-preserved : goal.runs-loop-index-preserved
runs-loop-index-preserved g t c =
    let s = g.K.Surroundings.sight c.args.around.now in
    let i = c.loop-index.index in
    let n = c.args.count in
    λ fs xs h e.
    let body = λ (f : Frame). spec.value s (source_of c.args.body.now) (f ∷ fs) in
    turned s.cell json s.known c.loop-index.all c.run-value.result c.in-Ok.more (told s.known (all
    (runs body xs 0 n))) (body (run_at xs i))
    (runs body xs (i + 1) (n - (i + 1)))
    (c.loop-index.invariant fs xs h e
    ∙ ap (λ rs. follow (seen json c.loop-index.all) (told s.known (all rs)))
    (runs_left body xs i n c.loop-index-test.true))
    (c.run-value.ensures (run_at xs i ∷ fs)
    (turn_seen s c.run_at.result xs (json c.args.over.now) i e c.run_at.ensures.item c.run_at.ensures.index, h))
    c.in-Ok.ensures

pub runs-returns-in-Err : goal.runs-returns-in-Err
runs-returns-in-Err g t c =
    let s = g.K.Surroundings.sight c.args.around.now in
    let i = c.loop-index.index in
    let n = c.args.count in
    λ fs xs h e.
    let body = λ (f : Frame). spec.value s (source_of c.args.body.now) (f ∷ fs) in
    turn_stops s.cell json s.known c.loop-index.all c.run-value.result c.in-Err.stop (told s.known (all
    (runs body xs 0 n))) (body (run_at xs i))
    (runs body xs (i + 1) (n - (i + 1)))
    (c.loop-index.invariant fs xs h e
    ∙ ap (λ rs. follow (seen json c.loop-index.all) (told s.known (all rs)))
    (runs_left body xs i n c.loop-index-test.true))
    (c.run-value.ensures (run_at xs i ∷ fs)
    (turn_seen s c.run_at.result xs (json c.args.over.now) i e c.run_at.ensures.item c.run_at.ensures.index, h))
    c.in-Err.ensures

pub runs-returns : goal.runs-returns
runs-returns g t c =
    let s = g.K.Surroundings.sight c.args.around.now in
    let i = c.loop-index.index in
    let n = c.args.count in
    λ fs xs h e.
    let body = λ (f : Frame). spec.value s (source_of c.args.body.now) (f ∷ fs) in
    rw c.whole.ensures
    (all_given s.cell json s.known c.loop-index.all (told s.known (all (runs body xs 0 n)))
    (c.loop-index.invariant fs xs h e
    ∙ ap (λ rs. follow (seen json c.loop-index.all) (told s.known (all rs)))
    (no_runs body xs i n c.loop-index-test.false)))

pub run-returns-in-Ok : goal.run-returns-in-Ok
run-returns-in-Ok g t c =
    let s = g.K.Surroundings.sight c.args.around.now in
    λ fs h. c.evaluate-value.ensures fs (subst (λ (ts : List Turn). AreSeen s ts fs) (sym c.as_slice.ensures.value)
    (inner_seen s c.args.turn c.args.turns.now c.in-Ok.inner.items fs c.in-Ok.ensures h))

-- ---- the first that is not null

pub first_there-returns-in-Err : goal.first_there-returns-in-Err
first_there-returns-in-Err g t c =
    let s = g.K.Surroundings.sight c.args.around.now in
    λ fs h. first_stops s c.args.args.now c.loop-arg.arg-index fs c.arg-item.result c.in-Err.stop _
    c.loop-arg-test.true
    c.arg-item.is (c.loop-arg.invariant fs h) (c.in-Err.ensures fs h)

pub first_there-returns-in-Some : goal.first_there-returns-in-Some
first_there-returns-in-Some g t c =
    let s = g.K.Surroundings.sight c.args.around.now in
    λ fs h. first_found s c.args.args.now c.loop-arg.arg-index fs c.arg-item.result c.in-Ok.value c.in-Some.value _
    c.loop-arg-test.true c.arg-item.is (c.loop-arg.invariant fs h) (c.in-Ok.ensures fs h) c.in-Some.ensures

pub first_there-loop-arg-preserved : goal.first_there-loop-arg-preserved
first_there-loop-arg-preserved g t c =
    let s = g.K.Surroundings.sight c.args.around.now in
    λ fs h. first_null s c.args.args.now c.loop-arg.arg-index fs c.arg-item.result c.in-Ok.value _
    c.loop-arg-test.true c.arg-item.is (c.loop-arg.invariant fs h) (c.in-Ok.ensures fs h) c.in-None.ensures

pub first_there-returns : goal.first_there-returns
first_there-returns g t c =
    let s = g.K.Surroundings.sight c.args.around.now in
    λ fs h. first_ends s c.args.args.now c.loop-arg.arg-index fs _ c.loop-arg-test.false (c.loop-arg.invariant fs h)

-- ---- elements of loops

pub inside-returns-in-Element : goal.inside-returns-in-Element
inside-returns-in-Element g t c =
    let s = g.K.Surroundings.sight c.args.around.now in
    at_reach s c.args.turns.now (Some c.element.result) _ _ (ap reach_of c.in-Element.is ∙ reach_of-Element _ _ _)
    (λ fs h. (
      element_seen s c.copied-items.result c.evaluate-index.result c.element.result _ _
          (subst (λ (k : ℕ). Gives s.cell json c.copied-items.result (told s.known
          (s.around.items k))) c.number.ensures
          (copied_gives s _ c.items.result c.copied-items.result _ c.items.ensures c.copied-items.ensures))
          (of_part s c.args.turns.now c.evaluate-index.result _ _ c.deref.ensures c.evaluate-index.ensures fs h)
          c.element.ensures,
      tt,
    ))

-- ---- calls

pub call-returns-then-not-is_coalesce : goal.call-returns-then-not-is_coalesce
call-returns-then-not-is_coalesce g t c =
    let s = g.K.Surroundings.sight c.args.around.now in
    λ fs h. called_reads s c.place.result.now (row_name c.args.row.now)
    (m.values s.here s.around (sources (map source_of c.args.args.now)) fs) c.values-args.result c.called.result
    c.place.ensures (sym c.is_coalesce.ensures ∙ c.if-not-is_coalesce.true)
    (c.values-args.ensures fs h) c.called.ensures

pub call-returns-then-is_empty : goal.call-returns-then-is_empty
call-returns-then-is_empty g t c =
    let s = g.K.Surroundings.sight c.args.around.now in
    λ fs h. coalesce_none s (row_name c.args.row.now) c.args.args.now fs
    (sym c.is_coalesce.ensures ∙ c.if-not-is_coalesce.false) (sym c.is_empty.ensures ∙ c.if-is_empty.true)

pub call-returns : goal.call-returns
call-returns g t c =
    let s = g.K.Surroundings.sight c.args.around.now in
    let es = sources (map source_of c.args.args.now) in
    at_reading s c.args.turns.now json c.first_there.result (spec.call s (row_name c.args.row.now) es)
    (spec.first_there s es)
    (λ fs. coalesce_some s (row_name c.args.row.now) c.args.args.now fs
    (sym c.is_coalesce.ensures ∙ c.if-not-is_coalesce.false) (sym c.is_empty.ensures ∙ c.if-is_empty.false))
    c.first_there.ensures

-- ---- loops and operators, by what was found first

pub looped-returns-in-Ok : goal.looped-returns-in-Ok
looped-returns-in-Ok g t c =
    let s = g.K.Surroundings.sight c.args.around.now in
    let v = c.in-Ok.over in
    let n = c.in-Ok.count in
    λ xs q fs h.
    let k = counted_ok s c.args.given (xs fs) v n (q fs h) c.in-Ok.ensures in
    looped_ok s (xs fs) (source_of c.args.body.now) fs v n c.runs-values.result c.array.result k.0 k.1
    (c.runs-values.ensures fs (xs fs) h k.0) c.array.ensures

pub looped-returns-in-Err : goal.looped-returns-in-Err
looped-returns-in-Err g t c =
    let s = g.K.Surroundings.sight c.args.around.now in
    λ xs q fs h. looped_stops s (xs fs) (source_of c.args.body.now) fs c.args.given c.in-Err.stop
    (q fs h) c.in-Err.ensures

pub binary-returns-in-Coalesce : goal.binary-returns-in-Coalesce
binary-returns-in-Coalesce g t c =
    let s = g.K.Surroundings.sight c.args.around.now in
    let y = source_of c.args.right.now in
    λ x q. at_reading s c.args.turns.now json c.coalesced.result (spec.binary s c.args.operator x y)
    (spec.coalesced s x y)
    (λ fs. coalesce_by c.args.operator (x fs) (spec.value s y fs) (sym c.in-Coalesce.ensures))
    (c.coalesced.ensures x q)

pub binary-returns-in-Or : goal.binary-returns-in-Or
binary-returns-in-Or g t c =
    let s = g.K.Surroundings.sight c.args.around.now in
    let y = source_of c.args.right.now in
    λ x q. at_reading s c.args.turns.now json c.decided.result (spec.binary s c.args.operator x y)
    (spec.decided s false x y)
    (λ fs. or_by c.args.operator (x fs) (spec.value s y fs) (sym c.in-Or.ensures)) (c.decided.ensures x q)

pub binary-returns-in-And : goal.binary-returns-in-And
binary-returns-in-And g t c =
    let s = g.K.Surroundings.sight c.args.around.now in
    let y = source_of c.args.right.now in
    λ x q. at_reading s c.args.turns.now json c.decided-in-And.result (spec.binary s c.args.operator x y)
    (spec.decided s true x y) (λ fs. and_by c.args.operator (x fs) (spec.value s y fs) (sym c.in-And.ensures))
    (c.decided-in-And.ensures x q)

pub binary-returns-in-Both : goal.binary-returns-in-Both
binary-returns-in-Both g t c =
    let s = g.K.Surroundings.sight c.args.around.now in
    let y = source_of c.args.right.now in
    λ x q. at_reading s c.args.turns.now json c.operated.result (spec.binary s c.args.operator x y)
    (λ fs. by_both (operator_value c.args.operator) (x fs) (spec.value s y fs))
    (λ fs. strict_is c.args.operator (x fs) (spec.value s y fs) (sym c.in-Both.ensures))
    (λ fs h. both_reads s.known s.cell (operator_value c.args.operator) c.args.first c.evaluate-second.result
    c.operated.result c.pair.result (x fs) (spec.value s y fs) (q fs h)
    (c.evaluate-second.ensures fs h) c.pair.ensures
    c.operated.ensures)

pub decided-returns-then-first-goes_on : goal.decided-returns-then-first-goes_on
decided-returns-then-first-goes_on g t c =
    let s = g.K.Surroundings.sight c.args.around.now in
    λ x q fs h. decided_second s c.args.given c.evaluate.result c.only_truth.result c.in-Ok.first c.args.goes_on
    (x fs)
    (spec.value s (source_of c.args.right.now) fs) c.if-first-goes_on.true (q fs h) c.in-Ok.ensures
    (c.evaluate.ensures fs h)
    c.only_truth.ensures

pub decided-returns-else-first-goes_on : goal.decided-returns-else-first-goes_on
decided-returns-else-first-goes_on g t c =
    let s = g.K.Surroundings.sight c.args.around.now in
    λ x q fs h. decided_first s c.args.given c.in-Ok.first c.args.goes_on (x fs)
    (spec.value s (source_of c.args.right.now) fs) c.if-first-goes_on.false (q fs h) c.in-Ok.ensures

pub decided-returns-in-Err : goal.decided-returns-in-Err
decided-returns-in-Err g t c =
    let s = g.K.Surroundings.sight c.args.around.now in
    λ x q fs h. decided_stops s c.args.given c.in-Err.stop c.args.goes_on (x fs)
    (spec.value s (source_of c.args.right.now) fs) (q fs h) c.in-Err.ensures

pub coalesced-returns-in-Some : goal.coalesced-returns-in-Some
coalesced-returns-in-Some g t c =
    let s = g.K.Surroundings.sight c.args.around.now in
    λ x q fs h. coalesce_found s.known s.cell c.in-Ok.value c.in-Some.value (x fs)
    (spec.value s (source_of c.args.right.now) fs)
    (subst (λ (r : Result Value Stop). Gives s.cell json r (told s.known (x fs))) c.in-Ok.is
    (q fs h)) c.in-Some.ensures

pub coalesced-returns-in-None : goal.coalesced-returns-in-None
coalesced-returns-in-None g t c =
    let s = g.K.Surroundings.sight c.args.around.now in
    λ x q fs h.
    let y = spec.value s (source_of c.args.right.now) fs in
    of_equal s.known s.cell json c.evaluate.result (told s.known (coalesce_value (x fs) y)) (told s.known y)
    (coalesce_null s.known s.cell c.in-Ok.value (x fs) y
    (subst (λ (r : Result Value Stop). Gives s.cell json r (told s.known (x fs))) c.in-Ok.is
    (q fs h)) c.in-None.ensures)
    (c.evaluate.ensures fs h)

pub coalesced-returns-in-Err : goal.coalesced-returns-in-Err
coalesced-returns-in-Err g t c =
    let s = g.K.Surroundings.sight c.args.around.now in
    λ x q fs h. coalesce_stops s.known s.cell c.in-Err.stop (x fs) (spec.value s (source_of c.args.right.now) fs)
    (subst (λ (r : Result Value Stop). Gives s.cell json r (told s.known (x fs))) c.in-Err.is (q fs h))
