use Rattle.mem_disk.proofs.CrashLemmas.{WalkedTo}
use Rattle.mem_disk.proofs.crash.image.Given as goal

abbrev pub invariant-loop-i : goal.invariant-loop-i
invariant-loop-i l = WalkedTo l.part l.first l.log.bytes.items l.log.entries.items l.from l.i l.now.items l.left.items
