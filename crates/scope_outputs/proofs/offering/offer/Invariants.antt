use Rattle.scope_outputs.proofs.OfferLemmas.{NotedLeft}
use Rattle.scope_outputs.proofs.offering.offer.Given as goal

abbrev pub invariant-outputs : goal.invariant-outputs
invariant-outputs l = NotedLeft l.register.table l.later l.frame l.told.items l.number
