use Rattle.std.proofs.Common.{◌≡◌, ◌++◌, drop}
use Rattle.bicep_circles.specs.Nodes as spec
use Rattle.bicep_circles.proofs.links.below.Given as goal

-- the rest goes on from what is kept
abbrev pub invariant-loop-number : goal.invariant-loop-number
invariant-loop-number l =
    l.out.items ++ spec.below l.count (drop l.number-index l.numbers) ≡ spec.below l.count l.numbers
