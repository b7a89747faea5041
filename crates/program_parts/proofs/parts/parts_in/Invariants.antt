use Rattle.std.proofs.Common.{length}
use Rattle.program_parts.specs.Parts.{AreParts}
use Rattle.program_parts.proofs.ItemLemmas.{SoFar}
use Rattle.program_parts.proofs.parts.parts_in.Given as goal

-- the parts of the files before
abbrev pub invariant-loop-order : goal.invariant-loop-order
invariant-loop-order l = SoFar (AreParts l.form l.sources l.files) l.all.items l.order-index (length l.orders)
