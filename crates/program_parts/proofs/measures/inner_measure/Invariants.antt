use Rattle.std.proofs.Common.{ℕ, drop}
use Rattle.measured_trees.specs.Extremes.{Extremes}
use Rattle.measured_trees.specs.Measures.{Begins}
use Rattle.program_parts.specs.Measures.{AreOf, inner_of}
use Rattle.program_parts.proofs.measures.inner_measure.Given as goal

-- what the modules before take, and what is left
abbrev pub invariant-loop-entry : goal.invariant-loop-entry
invariant-loop-entry l =
    (x : ℕ → Extremes) → AreOf x l.measures
    → Begins l.all (inner_of x (drop l.entry-index l.entries)) (inner_of x l.entries)
