use Rattle.std.proofs.Common.{take}
use Rattle.lock_rules.specs.Searches.{IsAbove}
use Rattle.lock_rules.proofs.searching.search.Given as goal

abbrev pub invariant-loop-i : goal.invariant-loop-i
invariant-loop-i l = IsAbove l.place (take l.i l.places)
