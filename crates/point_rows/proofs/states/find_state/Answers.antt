use Rattle.std.proofs.Common.{arith, map, Some, None, sym, ap, ◌∙◌}
use Rattle.tag_places.specs.Places.{first_place}
use Rattle.point_rows.specs.Rows.{state_tag}
use Rattle.point_rows.proofs.StateLemmas.{place_is}
use Rattle.point_rows.proofs.states.find_state.Goals as goal

pub index-requires : goal.index-requires
index-requires c =
    let a =
    (place_is c.args.later.now.states.items c.args.key.now (Some c.in-Some.place)
    (sym c.in-Some.is ∙ c.first_place.ensures (map state_tag c.args.later.now.states.items) c.requires
    ∙ ap (λ u. first_place u (map state_tag c.args.later.now.states.items)) c.in_ok-tag.ensures)).0 in
    let b = c.args.later.now.states.ok.0 in
    omega (arith, a, b)

pub returns-in-Some : goal.returns-in-Some
returns-in-Some c =
    (place_is c.args.later.now.states.items c.args.key.now (Some c.in-Some.place)
    (sym c.in-Some.is ∙ c.first_place.ensures (map state_tag c.args.later.now.states.items) c.requires
    ∙ ap (λ u. first_place u (map state_tag c.args.later.now.states.items)) c.in_ok-tag.ensures)).1
    c.index.result.now c.index.ensures

pub returns : goal.returns
returns c =
    place_is c.args.later.now.states.items c.args.key.now None
    (sym c.in-None.is ∙ c.first_place.ensures (map state_tag c.args.later.now.states.items) c.requires
    ∙ ap (λ u. first_place u (map state_tag c.args.later.now.states.items)) c.in_ok-tag.ensures)
