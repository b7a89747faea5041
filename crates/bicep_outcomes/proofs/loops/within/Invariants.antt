use Rattle.std.proofs.Common.{◌++◌, List, drop}
use Rattle.bicep_outcomes.specs.declared.loops.Turn.{Turn}
use Rattle.bicep_outcomes.specs.Outcomes.{AreCopies, IsInner}
use Rattle.bicep_outcomes.proofs.loops.within.Given as goal

-- copies of the runs that are left make it whole
abbrev pub invariant-loop-outer : goal.invariant-loop-outer
invariant-loop-outer l =
    (cs : List Turn) → AreCopies (drop l.outer-index l.turns) cs → IsInner l.fn.turn l.turns (l.inner.items ++ cs)
