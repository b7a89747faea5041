use Rattle.std.proofs.Common.{◌≡◌, ◌<◌, map, ap, sym, ◌∙◌, drop, [], length, arith}
use Rattle.std.proofs.lemmas.List.{drop_all}
use Rattle.foundation.proofs.Lists.{next_item}
use Rattle.bicep_resolved.specs.View.{source_of, piece_of, property_of, sources, pieces, properties}
use Rattle.bicep_found.specs.Found.{all_found}
use Rattle.bicep_found.proofs.GatherLemmas.{after, after-none, more_found, more_some, none_given, none_some, all_given}
use Rattle.bicep_found.proofs.GatherLemmas.{at_rest}
use Rattle.bicep_names.proofs.ArmLemmas.{of_equal, access_by, index_by, prefix_by}
use Rattle.bicep_names.specs.Parts.{sources_of, pieces_of, properties_of}
use Rattle.bicep_names.specs.Scope.{scope}
use Rattle.bicep_names.proofs.PartLemmas.{item_of, piece_found, property_found, all_is, holes_are, members_are}
use Rattle.bicep_names.proofs.expressions.+resolve.Goals as goal

pub resolve_all-loop-e-init : goal.resolve_all-loop-e-init
resolve_all-loop-e-init t c =
    let part = item_of (scope c.args.symbols.now c.args.outputs.now) (map (λ l. l.now) c.args.loops.now) in
    let all = all_found (map part c.args.es.now) in
    after-none all ∙ ap (λ xs. after (map source_of xs) all) (sym c.new-found.ensures.items)

pub resolve_all-returns-in-Err : goal.resolve_all-returns-in-Err
resolve_all-returns-in-Err t c =
    let sc = scope c.args.symbols.now c.args.outputs.now in
    let ls = map (λ l. l.now) c.args.loops.now in
    let i : c.loop-e.e-index < length c.args.es.now = omega arith in
    of_equal sources_of _ _ _ (all_is sc ls c.args.es.now)
    (none_given source_of _ _ _ c.push.new.values.items sources_of sources _ _ _ _
    (at_rest (item_of sc ls) _ _ _ _ c.loop-e.invariant
    (next_item c.args.es.now c.loop-e.e-index c.e-item.result i c.e-item.is))
    c.resolve-part.ensures (c.in-Err.ensures {u = tt}) c.lacks.ensures)

pub resolve_all-loop-e-preserved : goal.resolve_all-loop-e-preserved
resolve_all-loop-e-preserved t c =
    let sc = scope c.args.symbols.now c.args.outputs.now in
    let ls = map (λ l. l.now) c.args.loops.now in
    let i : c.loop-e.e-index < length c.args.es.now = omega arith in
    more_found source_of _ _ _ _ _ _ tt
    (at_rest (item_of sc ls) _ _ _ _ c.loop-e.invariant
    (next_item c.args.es.now c.loop-e.e-index c.e-item.result i c.e-item.is))
    c.resolve-part.ensures (c.in-Ok.ensures {u = tt})

pub resolve_all-returns : goal.resolve_all-returns
resolve_all-returns t c =
    let sc = scope c.args.symbols.now c.args.outputs.now in
    let ls = map (λ l. l.now) c.args.loops.now in
    let e : drop c.loop-e.e-index c.args.es.now ≡ [] =
    drop_all c.loop-e.e-index c.args.es.now (omega arith) in
    all_is sc ls c.args.es.now
    ∙ all_given source_of sources _ c.loop-e.found.items
    (at_rest (item_of sc ls) _ _ _ _ c.loop-e.invariant e)

pub resolve_holes-loop-hole-init : goal.resolve_holes-loop-hole-init
resolve_holes-loop-hole-init t c =
    let part = piece_found (scope c.args.symbols.now c.args.outputs.now) (map (λ l. l.now) c.args.loops.now) in
    let all = all_found (map part c.args.holes.now) in
    after-none all ∙ ap (λ xs. after (map piece_of xs) all) (sym c.new-found.ensures.items)

pub resolve_holes-returns-in-Err : goal.resolve_holes-returns-in-Err
resolve_holes-returns-in-Err t c =
    let sc = scope c.args.symbols.now c.args.outputs.now in
    let ls = map (λ l. l.now) c.args.loops.now in
    let i : c.loop-hole.hole-index < length c.args.holes.now = omega arith in
    of_equal pieces_of _ _ _ (holes_are sc ls c.args.holes.now)
    (none_given piece_of _ _ _ c.push.new.values.items pieces_of pieces _ _ _ _
    (at_rest (piece_found sc ls) _ _ _ _ c.loop-hole.invariant
    (next_item c.args.holes.now c.loop-hole.hole-index c.hole-item.result i c.hole-item.is))
    c.resolve_hole-part.ensures (c.in-Err.ensures {u = tt}) c.lacks.ensures)

pub resolve_holes-loop-hole-preserved : goal.resolve_holes-loop-hole-preserved
resolve_holes-loop-hole-preserved t c =
    let sc = scope c.args.symbols.now c.args.outputs.now in
    let ls = map (λ l. l.now) c.args.loops.now in
    let i : c.loop-hole.hole-index < length c.args.holes.now = omega arith in
    more_found piece_of _ _ _ _ _ _ tt
    (at_rest (piece_found sc ls) _ _ _ _ c.loop-hole.invariant
    (next_item c.args.holes.now c.loop-hole.hole-index c.hole-item.result i c.hole-item.is))
    c.resolve_hole-part.ensures (c.in-Ok.ensures {u = tt})

pub resolve_holes-returns : goal.resolve_holes-returns
resolve_holes-returns t c =
    let sc = scope c.args.symbols.now c.args.outputs.now in
    let ls = map (λ l. l.now) c.args.loops.now in
    let e : drop c.loop-hole.hole-index c.args.holes.now ≡ [] =
    drop_all c.loop-hole.hole-index c.args.holes.now (omega arith) in
    holes_are sc ls c.args.holes.now
    ∙ all_given piece_of pieces _ c.loop-hole.found.items
    (at_rest (piece_found sc ls) _ _ _ _ c.loop-hole.invariant e)

pub resolve_members-loop-member-init : goal.resolve_members-loop-member-init
resolve_members-loop-member-init t c =
    let part = property_found (scope c.args.symbols.now c.args.outputs.now) (map (λ l. l.now) c.args.loops.now) in
    let all = all_found (map part c.args.members.now) in
    after-none all ∙ ap (λ xs. after (map property_of xs) all) (sym c.new-found.ensures.items)

pub resolve_members-returns-in-Err : goal.resolve_members-returns-in-Err
resolve_members-returns-in-Err t c =
    let sc = scope c.args.symbols.now c.args.outputs.now in
    let ls = map (λ l. l.now) c.args.loops.now in
    let i : c.loop-member.member-index < length c.args.members.now = omega arith in
    of_equal properties_of _ _ _ (members_are sc ls c.args.members.now)
    (none_some property_of _ _ _ c.push_some.new.values.items properties_of properties _ _ _ _
    (at_rest (property_found sc ls) _ _ _ _ c.loop-member.invariant
    (next_item c.args.members.now c.loop-member.member-index c.member-item.result i c.member-item.is))
    c.resolve_member-part.ensures (c.in-Err.ensures {u = tt}) c.lacks.ensures)

pub resolve_members-loop-member-preserved : goal.resolve_members-loop-member-preserved
resolve_members-loop-member-preserved t c =
    let sc = scope c.args.symbols.now c.args.outputs.now in
    let ls = map (λ l. l.now) c.args.loops.now in
    let i : c.loop-member.member-index < length c.args.members.now = omega arith in
    more_some property_of _ _ _ _ _ _ tt
    (at_rest (property_found sc ls) _ _ _ _ c.loop-member.invariant
    (next_item c.args.members.now c.loop-member.member-index c.member-item.result i c.member-item.is))
    c.resolve_member-part.ensures (c.in-Ok.ensures {u = tt})

pub resolve_members-returns : goal.resolve_members-returns
resolve_members-returns t c =
    let sc = scope c.args.symbols.now c.args.outputs.now in
    let ls = map (λ l. l.now) c.args.loops.now in
    let e : drop c.loop-member.member-index c.args.members.now ≡ [] =
    drop_all c.loop-member.member-index c.args.members.now (omega arith) in
    members_are sc ls c.args.members.now
    ∙ all_given property_of properties _ c.loop-member.found.items
    (at_rest (property_found sc ls) _ _ _ _ c.loop-member.invariant e)

pub resolve-returns-in-Access : goal.resolve-returns-in-Access
resolve-returns-in-Access t c =
    access_by (scope c.args.symbols.now c.args.outputs.now) (map (λ l. l.now) c.args.loops.now) c.args.e.now
    c.deref-in-Access.result.now c.in-Access.whole c.in-Access.how c.in-Access.name c.resolve-whole.result
    c.access.result
    c.in-Access.is c.deref-in-Access.ensures c.resolve-whole.ensures c.access.ensures

pub resolve-returns-in-Index : goal.resolve-returns-in-Index
resolve-returns-in-Index t c =
    index_by (scope c.args.symbols.now c.args.outputs.now) (map (λ l. l.now) c.args.loops.now) c.args.e.now
    c.deref-in-Index.result.now c.deref-in-Index-2.result.now c.in-Index.whole c.in-Index.indexing c.in-Index.at
    c.resolve-whole-in-Index.result c.resolve-at.result c.index.result c.in-Index.is c.deref-in-Index.ensures
    c.deref-in-Index-2.ensures c.resolve-whole-in-Index.ensures c.resolve-at.ensures c.index.ensures

pub resolve-returns-in-Prefix : goal.resolve-returns-in-Prefix
resolve-returns-in-Prefix t c =
    prefix_by (scope c.args.symbols.now c.args.outputs.now) (map (λ l. l.now) c.args.loops.now) c.args.e.now
    c.deref-in-Prefix.result.now c.in-Prefix.at c.in-Prefix.prefix c.in-Prefix.operand c.resolve-operand.result
    c.prefixed.result c.in-Prefix.is c.deref-in-Prefix.ensures c.resolve-operand.ensures c.prefixed.ensures
