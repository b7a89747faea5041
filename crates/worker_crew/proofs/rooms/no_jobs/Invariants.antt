use Rattle.std.proofs.Common.{◌≡◌, None, replicate, vec_items}
use Rattle.worker_crew.proofs.rooms.no_jobs.Given as goal

abbrev pub invariant-loop-seat : goal.invariant-loop-seat
invariant-loop-seat l = vec_items l.opens ≡ replicate l.seat None
