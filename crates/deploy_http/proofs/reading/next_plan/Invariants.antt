use Rattle.std.proofs.Common.{◌≡◌, ◌≤◌, ◌-◌, ◌++◌, length, max, true}
use Rattle.deploy_http.proofs.reading.next_plan.Given as goal

abbrev pub invariant-loop-plan : goal.invariant-loop-plan
invariant-loop-plan g l = record {
  moved : g.S.Source.tells_rest ≡ true
      → l.initial.rest ++ g.S.Source.rest l.initial.source ≡ l.rest ++ g.S.Source.rest l.source;
  room : length l.rest ≤ max (length l.initial.rest) 16384;
  apart : g.S.Source.outgoing l.source ≡ g.S.Source.outgoing l.initial.source;
  faults : g.S.Source.faults l.source ≡ g.S.Source.faults l.initial.source;
}

abbrev pub decreases-loop-plan : goal.decreases-loop-plan
decreases-loop-plan g l = 16384 - length l.rest
