use Rattle.given_plans.specs.Given.{planned_of}
use Rattle.given_plans.specs.Listing.{AreListed}
use Rattle.given_plans.proofs.listing.list_of.Given as goal

abbrev pub invariant-loop-second : goal.invariant-loop-second
invariant-loop-second l = AreListed (planned_of l.plan) l.first l.second l.needs.items
