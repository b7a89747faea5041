use Rattle.std.proofs.Common.{◌∙◌, refl}
use Rattle.mem_disk.specs.Contents.{contents_of}
use Rattle.mem_disk.specs.Log.{steps_of}
use Rattle.mem_disk.specs.Moves.{wrote, tore}
use Rattle.mem_disk.proofs.Tears.{within_written}
use Rattle.mem_disk.proofs.StepLemmas.{goes_wrote, goes_tore, parts-push, parts_still}
use Rattle.mem_disk.proofs.mem_disk.MemDiskDisk.write_at.Goals as goal

pub invariant_of-self-in-Fails-clause-reads_are : goal.invariant_of-self-in-Fails-clause-reads_are
invariant_of-self-in-Fails-clause-reads_are c =
    let disk = c.args.self.now in
    parts_still (contents_of disk.first) (contents_of disk.held)
    (steps_of disk.log.bytes.items disk.log.entries.items)
    (steps_of c.keep_torn.new.log.bytes.items c.keep_torn.new.log.entries.items) c.args.part
    (tore c.args.at c.args.bytes.now) c.keep_torn.ensures.steps (λ file. refl) disk.reads_are

pub invariant_of-self-in-Goes-clause-reads_are : goal.invariant_of-self-in-Goes-clause-reads_are
invariant_of-self-in-Goes-clause-reads_are c =
    let disk = c.args.self.now in
    c.write_part.ensures.written
    ∙ parts-push (contents_of disk.first) (contents_of disk.held)
    (steps_of disk.log.bytes.items disk.log.entries.items)
    (steps_of c.push.new.self.bytes.items c.push.new.self.entries.items) c.args.part
    (wrote c.args.at c.args.bytes.now) c.push.ensures.steps disk.reads_are

pub invariant_of-self-in-Goes-clause-within : goal.invariant_of-self-in-Goes-clause-within
invariant_of-self-in-Goes-clause-within c =
    let disk = c.args.self.now in
    within_written 18446744073709551615 c.args.at c.args.part c.args.bytes.now (contents_of disk.held)
    (contents_of c.write_part.new.contents) c.write_part.ensures.written c.requires disk.within

pub returns-in-Fails-clause-images : goal.returns-in-Fails-clause-images
returns-in-Fails-clause-images c = λ _.
    let disk = c.args.self.now in
    let goes = goes_tore (contents_of disk.first) (steps_of disk.log.bytes.items disk.log.entries.items)
    (steps_of c.keep_torn.new.log.bytes.items c.keep_torn.new.log.entries.items) c.args.part c.args.at
    c.args.bytes.now c.keep_torn.ensures.steps in
    record { later = goes.later; past = goes.past; keeps = goes.keeps; during = goes.during }

pub returns-else-gap-self-clause-images : goal.returns-else-gap-self-clause-images
returns-else-gap-self-clause-images c = λ _.
    let disk = c.args.self.now in
    let goes = goes_wrote (contents_of disk.first) (steps_of disk.log.bytes.items disk.log.entries.items)
    (steps_of c.push.new.self.bytes.items c.push.new.self.entries.items) c.args.part c.args.at c.args.bytes.now
    c.push.ensures.steps in
    record { later = goes.later; past = goes.past; keeps = goes.keeps; during = goes.during }
