use Rattle.std.proofs.Common.{arith}
use Rattle.plan_deletes.proofs.DeleteLemmas.{deletes_more, deletes_end}
use Rattle.plan_deletes.proofs.deletes.list_held.Goals as goal

pub places-preserved : goal.places-preserved
places-preserved c =
    λ keys h.
    deletes_more c.args.place.now keys c.args.held.now c.places.at c.places.found.items c.push_at.new.found.items
    (omega (arith, c.places-test.true, c.len-at-end.ensures.count)) (λ e s. c.in_ok-push_at.ensures keys h e s)
    (c.places.invariant keys h)

pub returns : goal.returns
returns c =
    λ keys h.
    deletes_end c.args.place.now keys c.args.held.now c.places.at c.places.found.items
    (omega (arith, c.len-at-end.ensures.count)) (c.places.invariant keys h)
