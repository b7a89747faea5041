use Rattle.module_links.proofs.StepLemmas.{adds_one}
use Rattle.module_links.proofs.links.new_number.Goals as goal

pub returns-after-number-lt-MAX_PROGRAM_FILES-clause-adds : goal.returns-after-number-lt-MAX_PROGRAM_FILES-clause-adds
returns-after-number-lt-MAX_PROGRAM_FILES-clause-adds c =
    adds_one c.args.file.now c.args.path.now c.args.name c.args.entries.now.items c.add.new.entries.items
    c.requires.found c.requires.fresh c.in-Ok.ensures
