use Rattle.given_plans.specs.Given.{planned_of}
use Rattle.given_plans.specs.Listing.{AreListed}
use Rattle.given_plans.proofs.listing.list_all.Given as goal

abbrev pub invariant-loop-first : goal.invariant-loop-first
invariant-loop-first l = AreListed (planned_of l.plan) l.first 0 l.needs.items
