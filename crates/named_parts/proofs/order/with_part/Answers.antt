use Rattle.std.proofs.Common.{◌≡◌, ◌≤◌, ◌∙◌, length, ap, sym, subst}
use Rattle.std.specs.Prelude.{IfOk}
use Rattle.std.specs.List.{insert}
use Rattle.named_parts.proofs.OrderLemmas.{is_inserted, place_within, place_is}
use Rattle.named_parts.proofs.order.with_part.Goals as goal

pub insert_at-requires : goal.insert_at-requires
insert_at-requires g c =
    let name = g.T.Named.name_of in
    subst (λ n. n ≤ length c.args.parts)
    (sym (place_is name c.args.part c.args.parts c.name.result.now c.as_slice.result.now c.place-place.result
    c.name.ensures c.as_slice.ensures c.place-place.ensures)) (place_within name c.args.part c.args.parts)

pub returns : goal.returns
returns g c =
    let name = g.T.Named.name_of in
    subst (λ ys. IfOk c.insert_at.result (λ xs. xs ≡ ys))
    (ap (λ n. insert c.args.parts n c.args.part)
    (place_is name c.args.part c.args.parts c.name.result.now c.as_slice.result.now c.place-place.result c.name.ensures
    c.as_slice.ensures c.place-place.ensures)
    ∙ is_inserted name c.args.part c.args.parts) c.insert_at.ensures
