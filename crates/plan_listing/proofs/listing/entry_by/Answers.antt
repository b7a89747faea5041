use Rattle.std.proofs.Common.{sym}
use Rattle.arm_value.specs.View.{json}
use Rattle.plan_listing.proofs.HitLemmas.{no_text, no_truth}
use Rattle.plan_listing.proofs.listing.entry_by.Goals as goal

pub returns-in-None-truth_of : goal.returns-in-None-truth_of
returns-in-None-truth_of c =
    no_truth (json c.args.first.now) (json c.args.second.now) (sym c.in-None-truth_of.ensures)

pub returns-in-None : goal.returns-in-None
returns-in-None c = no_text (json c.args.first.now) (json c.args.second.now) (sym c.in-None.ensures)
