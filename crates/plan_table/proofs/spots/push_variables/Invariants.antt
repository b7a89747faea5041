use Rattle.std.proofs.Common.{◌≡◌, ◌++◌}
use Rattle.plan_table.specs.declared.line.Spot.TheVariants.{Variable}
use Rattle.plan_table.specs.Spots.{below}
use Rattle.plan_table.proofs.spots.push_variables.Given as goal

abbrev pub invariant-loop-number : goal.invariant-loop-number
invariant-loop-number l = l.spots.items ≡ l.initial.spots.items ++ below (λ i. Variable l.frame i) l.number
