use Rattle.std.proofs.Common.{length}
use Rattle.program_parts.specs.Parts.{AreOrders}
use Rattle.program_parts.proofs.ItemLemmas.{SoFar}
use Rattle.program_parts.proofs.parts.file_orders.Given as goal

-- the orders of the files before
abbrev pub invariant-loop : goal.invariant-loop
invariant-loop l = SoFar (AreOrders l.sources l.files) l.all.items l.counter (length l.files)
