use Rattle.std.proofs.Common.{◌≡◌, drop}
use Rattle.bicep_placed.specs.Kinds.{is_folded_front}
use Rattle.bicep_placed.proofs.kinds.begins.Given as goal

-- the rest decides
abbrev pub invariant-loop-i : goal.invariant-loop-i
invariant-loop-i l = is_folded_front l.front l.whole ≡ is_folded_front (drop l.i l.front) (drop l.i l.whole)
