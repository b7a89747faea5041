use Rattle.std.proofs.Common.{◌≡◌, vec_items, vec_len}
use Rattle.worker_crew.specs.Driven.{HasNoJobs}
use Rattle.armdeploy.proofs.crew.Given as goal

abbrev pub invariant-loop-number : goal.invariant-loop-number
invariant-loop-number l = (vec_len l.seats ≡ l.number) × HasNoJobs (vec_items l.seats)
