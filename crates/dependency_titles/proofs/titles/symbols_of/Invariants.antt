use Rattle.std.proofs.Common.{◌≡◌, ◌++◌, map, drop}
use Rattle.plan_table.specs.Listed.{listed_of}
use Rattle.dependency_titles.specs.Titles.{symbol_titles}
use Rattle.dependency_titles.proofs.titles.symbols_of.Given as goal

abbrev pub invariant-loop-resource : goal.invariant-loop-resource
invariant-loop-resource l = l.set ++ symbol_titles (map listed_of (drop l.resource-index l.resources))
    ≡ symbol_titles (map listed_of l.resources)
