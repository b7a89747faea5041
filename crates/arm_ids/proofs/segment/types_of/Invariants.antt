use Rattle.std.proofs.Common.{◌≡◌, ◌∷◌, ◌++◌, length}
use Rattle.arm_ids.specs.Segments.{firsts}
use Rattle.arm_ids.proofs.segment.types_of.Given as goal

abbrev pub invariant-loop-rest : goal.invariant-loop-rest
invariant-loop-rest l = l.types.items ++ firsts l.rest ≡ l.provider ∷ firsts l.path

abbrev pub decreases-loop-rest : goal.decreases-loop-rest
decreases-loop-rest l = length l.rest
