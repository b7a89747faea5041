use Rattle.program_parts.proofs.FaultLemmas.{of_file}
use Rattle.program_parts.proofs.PartLemmas.{of_program, shallow, order_is, loops_are, is_part}
use Rattle.program_parts.proofs.parts.part_by.Goals as goal

pub file_parts-requires-clause-text : goal.file_parts-requires-clause-text
file_parts-requires-clause-text c =
    shallow c.args.sources.now c.args.files.now c.requires.read.read c.args.number c.args.source.now
    c.in-Some.file.now (record { text = c.requires.read.text; file = c.in-Some.ensures })

pub file_parts-requires-clause-checked : goal.file_parts-requires-clause-checked
file_parts-requires-clause-checked c =
    of_program c.args.sources.now c.args.files.now c.requires.read.read c.args.number c.args.source.now
    c.in-Some.file.now (record { text = c.requires.read.text; file = c.in-Some.ensures })

pub file_parts-requires-clause-order : goal.file_parts-requires-clause-order
file_parts-requires-clause-order c =
    order_is c.args.sources.now c.args.files.now c.requires.read.read c.args.number c.args.source.now
    c.in-Some.file.now (record { text = c.requires.read.text; file = c.in-Some.ensures }) c.args.order.now
    c.requires.order

pub file_parts-requires-clause-loops : goal.file_parts-requires-clause-loops
file_parts-requires-clause-loops c =
    loops_are c.args.sources.now c.args.files.now c.requires.read.read c.args.number c.args.source.now
    c.in-Some.file.now (record { text = c.requires.read.text; file = c.in-Some.ensures }) c.args.order.now
    c.requires.order

pub returns-in-Some-clause-part : goal.returns-in-Some-clause-part
returns-in-Some-clause-part c =
    is_part c.args.sources.now c.args.files.now c.requires.read.read c.args.number c.args.source.now
    c.in-Some.file.now (record { text = c.requires.read.text; file = c.in-Some.ensures }) c.args.form
    c.file_parts.result c.file_parts.ensures.parts

pub returns-in-Some-clause-fault : goal.returns-in-Some-clause-fault
returns-in-Some-clause-fault c =
    of_file c.args.sources.now c.args.files.now c.args.number c.args.source.now c.in-Some.file.now
    (record { text = c.requires.read.text; file = c.in-Some.ensures }) c.file_parts.result c.file_parts.ensures.fault
