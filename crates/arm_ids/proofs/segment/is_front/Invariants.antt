use Rattle.std.proofs.Common.{◌≡◌, drop}
use Rattle.arm_ids.specs.Segments.{is_front}
use Rattle.arm_ids.proofs.segment.is_front.Given as goal

abbrev pub invariant-loop-i : goal.invariant-loop-i
invariant-loop-i l = is_front l.front l.whole ≡ is_front (drop l.i l.front) (drop l.i l.whole)
