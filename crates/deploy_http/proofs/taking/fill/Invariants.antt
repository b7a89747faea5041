use Rattle.std.proofs.Common.{◌≡◌, ◌≤◌, ◌-◌, ◌++◌, length, max, true}
use Rattle.deploy_http.specs.Answers.{Begins}
use Rattle.deploy_http.proofs.taking.fill.Given as goal

abbrev pub invariant-loop-bytes : goal.invariant-loop-bytes
invariant-loop-bytes g l = record {
  moved : g.S.Source.tells_rest ≡ true
      → l.initial.bytes ++ g.S.Source.rest l.initial.source ≡ l.bytes ++ g.S.Source.rest l.source;
  room : length l.bytes ≤ max (length l.initial.bytes) l.count;
  added : Begins l.initial.bytes l.bytes;
  apart : g.S.Source.outgoing l.source ≡ g.S.Source.outgoing l.initial.source;
  faults : g.S.Source.faults l.source ≡ g.S.Source.faults l.initial.source;
}

abbrev pub decreases-loop-bytes : goal.decreases-loop-bytes
decreases-loop-bytes g l = l.count - length l.bytes
