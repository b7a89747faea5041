use Rattle.std.proofs.Common.{length}
use Rattle.file_limits.proofs.OverLemmas.{SoFar}
use Rattle.file_limits.specs.Extremes.{output_extremes}
use Rattle.file_limits.proofs.measured.measured_outputs.Given as goal

-- what the outputs before take
abbrev pub invariant-loop-number : goal.invariant-loop-number
invariant-loop-number l = SoFar (output_extremes l.table l.metadata) (length l.outputs) l.number l.all
