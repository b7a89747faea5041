use Rattle.std.proofs.Common.{map}
use Rattle.arm_value.specs.View.{json}
use Rattle.deploy_cells.specs.Listing.{instances_of}
use Rattle.plan_listing.specs.Hits.{is_wanted}
use Rattle.plan_listing.proofs.HitLemmas.{IsSeekingIn}
use Rattle.plan_listing.proofs.listing.first_among.Given as goal

abbrev pub invariant-loop-number : goal.invariant-loop-number
invariant-loop-number l =
    IsSeekingIn (is_wanted l.wanted) (map instances_of (map json l.deployments)) l.number l.left
