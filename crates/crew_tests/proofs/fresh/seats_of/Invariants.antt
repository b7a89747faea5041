use Rattle.std.proofs.Common.{vec_items}
use Rattle.worker_crew.specs.Driven.{HasNoJobs}
use Rattle.crew_tests.proofs.fresh.seats_of.Given as goal

abbrev pub invariant-loop-provider : goal.invariant-loop-provider
invariant-loop-provider g l = HasNoJobs (vec_items l.seats)
