use Rattle.crossbeam_channel.specs.Ends.{receives_on, sends_on}
use Rattle.crew_workers.specs.Received.{received}
use Rattle.crew_workers.specs.Seated.{IsSeated, IsSameSeat}
use Rattle.crew_workers.proofs.ReceivedLemmas.{HasRun}
use Rattle.crew_workers.proofs.worker.work.Given as goal
use Rattle.seat_calls.specs.Dones.{Made}

abbrev pub invariant-loop : goal.invariant-loop
invariant-loop g l =
    IsSeated (Made g.P.Serves.may g.P.Serves.tells g.P.Serves.calls g.P.Serves.faults) (receives_on l.from)
    (sends_on l.to) l.working × IsSameSeat l.fn.worker l.working × HasRun (received l.fn.worker) (received l.working)
