use Rattle.std.proofs.Common.{map}
use Rattle.arm_value.specs.View.{json}
use Rattle.deploy_cells.specs.Listing.{named_of}
use Rattle.plan_listing.specs.Hits.{is_wanted}
use Rattle.plan_listing.proofs.HitLemmas.{IsSeeking}
use Rattle.plan_listing.proofs.listing.first_of.Given as goal

abbrev pub invariant-loop-index : goal.invariant-loop-index
invariant-loop-index l = IsSeeking (is_wanted l.wanted) (map named_of (map json l.instances)) l.index l.left
