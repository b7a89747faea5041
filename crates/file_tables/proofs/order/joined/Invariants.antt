use Rattle.std.proofs.Common.{◌≡◌, length}
use Rattle.file_tables.specs.Orders.{mark_at}
use Rattle.file_tables.proofs.MarkLemmas.{AreMarks}
use Rattle.file_tables.proofs.order.joined.Given as goal

-- the numbers before have their marks
abbrev pub invariant-loop-number : goal.invariant-loop-number
invariant-loop-number l =
    AreMarks (mark_at l.has_entry l.batches) 0 l.marks.items × (length l.marks.items ≡ l.number)
