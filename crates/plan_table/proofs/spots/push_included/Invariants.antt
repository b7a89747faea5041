use Rattle.std.proofs.Common.{◌≡◌, ◌++◌}
use Rattle.plan_table.specs.declared.line.Spot.TheVariants.{Included}
use Rattle.plan_table.specs.Spots.{below}
use Rattle.plan_table.proofs.spots.push_included.Given as goal

abbrev pub invariant-loop-copy : goal.invariant-loop-copy
invariant-loop-copy l = l.spots.items ≡ l.initial.spots.items ++ below (λ i. Included l.frame l.resource i) l.copy
