use Rattle.std.proofs.Common.{refl, inl}
use Rattle.mem_disk.specs.Contents.{contents_of}
use Rattle.mem_disk.specs.Log.{steps_of}
use Rattle.mem_disk.specs.Moves.{synced}
use Rattle.mem_disk.proofs.StepLemmas.{goes_synced, kept_synced, parts_still}
use Rattle.mem_disk.proofs.mem_disk.MemDiskDisk.sync.Goals as goal

pub invariant_of-self-clause-reads_are : goal.invariant_of-self-clause-reads_are
invariant_of-self-clause-reads_are c =
    let disk = c.args.self.now in
    parts_still (contents_of disk.first) (contents_of disk.held)
    (steps_of disk.log.bytes.items disk.log.entries.items)
    (steps_of c.push.new.self.bytes.items c.push.new.self.entries.items) c.args.part synced
    (inl c.push.ensures.steps) (λ file. refl) disk.reads_are

pub returns-in-Goes-clause-kept : goal.returns-in-Goes-clause-kept
returns-in-Goes-clause-kept c = λ _.
    let disk = c.args.self.now in
    kept_synced (contents_of disk.first) (contents_of disk.held)
    (steps_of disk.log.bytes.items disk.log.entries.items)
    (steps_of c.push.new.self.bytes.items c.push.new.self.entries.items) c.args.part c.push.ensures.steps
    disk.reads_are

pub returns-in-Goes-clause-images : goal.returns-in-Goes-clause-images
returns-in-Goes-clause-images c = λ _.
    let disk = c.args.self.now in
    let goes = goes_synced (contents_of disk.first) (steps_of disk.log.bytes.items disk.log.entries.items)
    (steps_of c.push.new.self.bytes.items c.push.new.self.entries.items) c.args.part c.push.ensures.steps in
    record { later = goes.later; past = goes.past; keeps = goes.keeps; during = goes.during }
