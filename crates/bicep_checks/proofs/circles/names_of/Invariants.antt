use Rattle.std.proofs.Common.{◌≡◌, ◌++◌, map, drop}
use Rattle.bicep_symbols.specs.Entries.{symbol_of}
use Rattle.bicep_checks.specs.Faults.{name_at}
use Rattle.bicep_checks.proofs.circles.names_of.Given as goal

-- the rest goes on from what is listed
abbrev pub invariant-loop-number : goal.invariant-loop-number
invariant-loop-number l =
    l.names ++ map (name_at (map symbol_of l.entries)) (drop l.number-index l.numbers)
    ≡ map (name_at (map symbol_of l.entries)) l.numbers
