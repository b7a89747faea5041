use Rattle.std.proofs.Common.{◌≡◌, drop}
use Rattle.http_heads.specs.Spots.{run}
use Rattle.http_heads.specs.declared.spot.Spot.TheVariants.{LineStart}
use Rattle.http_heads.proofs.spot.is_past_target.Given as goal

abbrev pub invariant-loop-byte : goal.invariant-loop-byte
invariant-loop-byte l = run l.spot (drop l.byte-index l.bytes) ≡ run LineStart l.bytes
