use Rattle.std.proofs.Common.{◌∙◌, refl}
use Rattle.mem_disk.specs.Contents.{contents_of}
use Rattle.mem_disk.specs.Log.{steps_of}
use Rattle.mem_disk.specs.Moves.{shortened, tore_off}
use Rattle.mem_disk.proofs.Tears.{within_cut}
use Rattle.mem_disk.proofs.StepLemmas.{goes_shortened, goes_tore_off, parts-push, parts_still}
use Rattle.mem_disk.proofs.mem_disk.MemDiskDisk.cut.Goals as goal

pub invariant_of-self-in-Fails-clause-reads_are : goal.invariant_of-self-in-Fails-clause-reads_are
invariant_of-self-in-Fails-clause-reads_are c =
    let disk = c.args.self.now in
    parts_still (contents_of disk.first) (contents_of disk.held)
    (steps_of disk.log.bytes.items disk.log.entries.items)
    (steps_of c.keep_torn.new.log.bytes.items c.keep_torn.new.log.entries.items) c.args.part
    (tore_off c.args.length) c.keep_torn.ensures.steps (λ file. refl) disk.reads_are

pub invariant_of-self-in-Goes-clause-reads_are : goal.invariant_of-self-in-Goes-clause-reads_are
invariant_of-self-in-Goes-clause-reads_are c =
    let disk = c.args.self.now in
    c.cut_part.ensures.cut
    ∙ parts-push (contents_of disk.first) (contents_of disk.held)
    (steps_of disk.log.bytes.items disk.log.entries.items)
    (steps_of c.push.new.self.bytes.items c.push.new.self.entries.items) c.args.part (shortened c.args.length)
    c.push.ensures.steps disk.reads_are

pub invariant_of-self-in-Goes-clause-within : goal.invariant_of-self-in-Goes-clause-within
invariant_of-self-in-Goes-clause-within c =
    let disk = c.args.self.now in
    within_cut 18446744073709551615 c.args.length c.args.part (contents_of disk.held)
    (contents_of c.cut_part.new.contents) c.cut_part.ensures.cut c.requires disk.within

pub returns-in-Fails-clause-images : goal.returns-in-Fails-clause-images
returns-in-Fails-clause-images c = λ _.
    let disk = c.args.self.now in
    let goes = goes_tore_off (contents_of disk.first) (steps_of disk.log.bytes.items disk.log.entries.items)
    (steps_of c.keep_torn.new.log.bytes.items c.keep_torn.new.log.entries.items) c.args.part c.args.length
    c.keep_torn.ensures.steps in
    record { later = goes.later; past = goes.past; keeps = goes.keeps; during = goes.during }

pub returns-else-gap-self-clause-images : goal.returns-else-gap-self-clause-images
returns-else-gap-self-clause-images c = λ _.
    let disk = c.args.self.now in
    let goes = goes_shortened (contents_of disk.first) (steps_of disk.log.bytes.items disk.log.entries.items)
    (steps_of c.push.new.self.bytes.items c.push.new.self.entries.items) c.args.part c.args.length
    c.push.ensures.steps in
    record { later = goes.later; past = goes.past; keeps = goes.keeps; during = goes.during }
