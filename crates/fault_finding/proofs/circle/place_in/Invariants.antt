use Rattle.std.proofs.Common.{◌≡◌, ◌+◌, drop}
use Rattle.fault_finding.specs.Circles.{place_in}
use Rattle.fault_finding.proofs.circle.place_in.Given as goal

abbrev pub invariant-loop-number : goal.invariant-loop-number
invariant-loop-number l = place_in l.wanted l.places ≡ l.number + place_in l.wanted (drop l.number l.places)
