use Rattle.std.proofs.Common.{◌≡◌, ◌++◌}
use Rattle.plan_table.specs.declared.line.Spot.TheVariants.{Offered}
use Rattle.plan_table.specs.Spots.{below}
use Rattle.plan_table.proofs.spots.push_offered.Given as goal

abbrev pub invariant-loop-number : goal.invariant-loop-number
invariant-loop-number l = l.spots.items ≡ l.initial.spots.items ++ below (λ i. Offered l.frame i) l.number
