use Rattle.std.proofs.Common.{length, ◌-◌, ◌≡◌, ◌+◌, ◌≤◌, true, take, drop}
use Rattle.deploy_journal.specs.Reading.{Still}
use Rattle.deploy_journal.proofs.read.read_full.Given as goal

abbrev pub invariant-loop-done : goal.invariant-loop-done
invariant-loop-done g l = record {
  bound : l.done ≤ length l.buf;
  filled : g.D.Disk.tells_reads ≡ true → l.at + length l.buf ≤ length (g.D.Disk.reads l.initial.disk).a
      → take l.done l.buf ≡ take l.done (drop l.at (g.D.Disk.reads l.initial.disk).a);
  still : Still g.D.Disk.tells_images g.D.Disk.reads g.D.Disk.moment g.D.Disk.left g.D.Disk.reach l.initial.disk l.disk;
  faults : g.D.Disk.faults l.disk ≡ g.D.Disk.faults l.initial.disk;
}

abbrev pub decreases-loop-done : goal.decreases-loop-done
decreases-loop-done g l = length l.initial.buf - l.done
