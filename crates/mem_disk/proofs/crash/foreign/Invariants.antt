use Rattle.std.proofs.Common.{◌≡◌, length}
use Rattle.mem_disk.proofs.crash.foreign.Given as goal

abbrev pub invariant-loop-i : goal.invariant-loop-i
invariant-loop-i l = length l.other.items ≡ l.i
