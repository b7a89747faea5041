use Rattle.std.proofs.Common.{sym, ◌∙◌}
use Rattle.arm_value.specs.View.{json}
use Rattle.plan_listing.specs.Hits.{is_wanted}
use Rattle.plan_listing.proofs.HitLemmas.{items_there, items_nowhere, sought_in, nothing_sought}
use Rattle.plan_listing.proofs.listing.seek_listed.Goals as goal

pub returns-in-Some : goal.returns-in-Some
returns-in-Some c =
    sought_in (is_wanted c.args.wanted.now) c.first_among.result (json c.args.listing.now) c.as_slice.result.now
    (items_there (json c.args.listing.now) c.in-Some.items.now c.in-Some.ensures ∙ sym c.as_slice.ensures.items)
    c.first_among.ensures

pub returns-in-None : goal.returns-in-None
returns-in-None c =
    nothing_sought (is_wanted c.args.wanted.now) (json c.args.listing.now)
    (items_nowhere (json c.args.listing.now) c.in-None.ensures)
