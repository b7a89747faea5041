use Rattle.std.proofs.Common.{◌≡◌, ◌++◌, length}
use Rattle.arm_ids.specs.Segments.{seconds}
use Rattle.arm_ids.proofs.segment.names_of.Given as goal

abbrev pub invariant-loop-rest : goal.invariant-loop-rest
invariant-loop-rest l = l.names.items ++ seconds l.rest ≡ seconds l.path

abbrev pub decreases-loop-rest : goal.decreases-loop-rest
decreases-loop-rest l = length l.rest
