use Rattle.plan_listing.proofs.HitLemmas.{other_value}
use Rattle.plan_listing.proofs.listing.entry_of.Goals as goal

pub returns-in_default : goal.returns-in_default
returns-in_default c = other_value c.args.item.now c.in_default.not-Array
