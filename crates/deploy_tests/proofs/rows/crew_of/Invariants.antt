use Rattle.std.proofs.Common.{vec_items}
use Rattle.worker_crew.specs.Driven.{HasNoJobs}
use Rattle.deploy_tests.proofs.rows.crew_of.Given as goal

abbrev pub invariant-loop-seat : goal.invariant-loop-seat
invariant-loop-seat l = HasNoJobs (vec_items l.crew)
