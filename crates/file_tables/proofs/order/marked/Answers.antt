use Rattle.std.proofs.Common.{sym, subst}
use Rattle.file_tables.specs.Orders.{HasEntries}
use Rattle.file_tables.proofs.MarkLemmas.{is_file, batches_are}
use Rattle.resolved_program.specs.View.{file_view}
use Rattle.file_tables.proofs.order.marked.Goals as goal

pub returns-clause-file : goal.returns-clause-file
returns-clause-file c =
    is_file c.as_slice.result.now c.args.batches.now c.args.file.now
    (subst (HasEntries (file_view c.args.file.now)) (sym c.as_slice.ensures.value) c.in_ok-has_entry.ensures)
    c.joined.result c.joined.ensures

pub returns-clause-batches : goal.returns-clause-batches
returns-clause-batches c = batches_are c.as_slice.result.now c.args.batches.now c.joined.result c.joined.ensures
