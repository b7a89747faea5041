use Rattle.std.proofs.Common.{ℕ, length}
use Rattle.measured_trees.specs.Extremes.{Extremes}
use Rattle.program_parts.specs.Measures.{AreOf}
use Rattle.program_parts.specs.Parts.{AllFrom}
use Rattle.program_parts.proofs.ItemLemmas.{SoFar}
use Rattle.program_parts.proofs.MeasureLemmas.{IsTaken}
use Rattle.program_parts.proofs.measures.more_measures.Given as goal

-- what the files before take
abbrev pub invariant-loop-part : goal.invariant-loop-part
invariant-loop-part l =
    SoFar (λ ms. (x : ℕ → Extremes) → AreOf x l.measures → AllFrom (IsTaken l.parts x) 0 ms) l.all.items l.part-index
    (length l.parts)
