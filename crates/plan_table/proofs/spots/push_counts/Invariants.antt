use Rattle.std.proofs.Common.{◌≡◌, ◌++◌, map}
use Rattle.plan_table.specs.Listed.{listed_of}
use Rattle.plan_table.specs.Spots.{counts_below}
use Rattle.plan_table.proofs.spots.push_counts.Given as goal

abbrev pub invariant-loop-number : goal.invariant-loop-number
invariant-loop-number l =
    l.spots.items ≡ l.initial.spots.items ++ counts_below l.frame (map listed_of l.resources) l.number
