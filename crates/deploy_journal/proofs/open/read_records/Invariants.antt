use Rattle.std.proofs.Common.{length, ◌-◌, ◌≡◌, ◌+◌, ◌≤◌, ◌++◌, [], drop, true}
use Rattle.deploy_journal.specs.Records.{spelled, beginning}
use Rattle.deploy_journal.specs.Reading.{Still}
use Rattle.deploy_journal.proofs.open.read_records.Given as goal

abbrev pub invariant-loop-at : goal.invariant-loop-at
invariant-loop-at g l = record {
  within : l.at ≤ l.size;
  place : l.at ≡ 16 + length (spelled l.records.items []);
  split : g.D.Disk.tells_reads ≡ true → l.size ≡ length (g.D.Disk.reads l.initial.disk).a
      → (g.D.Disk.reads l.initial.disk).a ≡ beginning ++ drop 16 (g.D.Disk.reads l.initial.disk).a
      → beginning ++ spelled l.records.items (drop l.at (g.D.Disk.reads l.initial.disk).a)
      ≡ (g.D.Disk.reads l.initial.disk).a;
  still : Still g.D.Disk.tells_images g.D.Disk.reads g.D.Disk.moment g.D.Disk.left g.D.Disk.reach l.initial.disk l.disk;
  faults : g.D.Disk.faults l.disk ≡ g.D.Disk.faults l.initial.disk;
}

abbrev pub decreases-loop-at : goal.decreases-loop-at
decreases-loop-at g l = l.size - l.at
