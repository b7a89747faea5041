use Rattle.program_parts.proofs.FaultLemmas.{of_batches}
use Rattle.program_parts.proofs.PartLemmas.{of_checked, is_order}
use Rattle.program_parts.proofs.parts.order_by.Goals as goal

pub file_loops-requires : goal.file_loops-requires
file_loops-requires c =
    of_checked c.args.sources.now c.args.files.now c.requires.read c.args.number c.args.source.now c.in-Some.file.now
    (record { text = c.requires.text; file = c.in-Some.ensures })

pub returns-in-Some-clause-order : goal.returns-in-Some-clause-order
returns-in-Some-clause-order c =
    is_order c.args.sources.now c.args.files.now c.requires.read c.args.number c.args.source.now c.in-Some.file.now
    (record { text = c.requires.text; file = c.in-Some.ensures }) c.file_loops.result c.file_loops.ensures.order
    c.file_loops.ensures.loops

pub returns-in-Some-clause-fault : goal.returns-in-Some-clause-fault
returns-in-Some-clause-fault c =
    of_batches c.args.sources.now c.args.files.now c.args.number c.args.source.now c.in-Some.file.now
    (record { text = c.requires.text; file = c.in-Some.ensures }) c.file_loops.result c.file_loops.ensures.fault
