use Rattle.std.proofs.Common.{map, take, ap, sym, subst, ◌∙◌, arith}
use Rattle.std.specs.Prelude.{Ok}
use Rattle.std.proofs.lemmas.List.{take_all}
use Rattle.foundation.proofs.Lists.{map-push}
use Rattle.emission_laws.specs.Holes.{fill}
use Rattle.kept_expressions.specs.Kept.{AreKeptHoles}
use Rattle.kept_parts.proofs.ListLemmas.{kept_at, kept_more, kept_length}
use Rattle.kept_parts.proofs.frames.placed_all.Goals as goal

pub loop-part-preserved : goal.loop-part-preserved
loop-part-preserved c = λ ts g h k.
    let i = c.loop-part.part-index in
    let at = kept_at ts c.args.parts.now i c.part-item.result h c.loop-part-test.true c.part-item.is in
    subst (λ us. AreKeptHoles us c.in-Ok.more.items)
    (sym (ap (map (fill g)) at.front ∙ map-push (fill g) (take i ts) at.tree))
    (kept_more (map (fill g) (take i ts)) (fill g at.tree) (Ok c.loop-part.all) c.placed.result (Ok c.in-Ok.more)
    c.in-Ok.ensures (c.loop-part.invariant ts g h k) (c.placed.ensures at.tree g at.is_kept k))

pub returns : goal.returns
returns c = λ ts g h k.
    let i = c.loop-part.part-index in
    let same = kept_length ts c.args.parts.now h in
    let ended = c.loop-part-test.false in
    subst (λ us. AreKeptHoles (map (fill g) us) c.loop-part.all.items) (take_all i ts (omega (arith, same, ended)))
    (c.loop-part.invariant ts g h k)
