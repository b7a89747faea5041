use Rattle.std.proofs.Common.{length, ◌-◌, ◌≡◌, ◌++◌, ◌≤◌, true, take}
use Rattle.http_replies.proofs.sending.send_all.Given as goal

abbrev pub invariant-loop-done : goal.invariant-loop-done
invariant-loop-done g l = record {
  within : l.done ≤ length l.bytes;
  written : g.S.Sink.tells_written ≡ true
      → g.S.Sink.written l.sink ≡ g.S.Sink.written l.initial.sink ++ take l.done l.bytes;
  apart : g.S.Sink.incoming l.sink ≡ g.S.Sink.incoming l.initial.sink;
  faults : g.S.Sink.faults l.sink ≡ g.S.Sink.faults l.initial.sink;
}

abbrev pub decreases-loop-done : goal.decreases-loop-done
decreases-loop-done g l = length l.bytes - l.done
