use Rattle.plan_listing.proofs.HitLemmas.{other_parts}
use Rattle.plan_listing.proofs.listing.entry_of_items.Goals as goal

pub returns-else-parts-eq2 : goal.returns-else-parts-eq2
returns-else-parts-eq2 c =
    other_parts c.as_slice-parts.result.now c.args.items.now c.as_slice-parts.ensures.items c.if-parts-eq2.false
