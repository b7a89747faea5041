use Rattle.std.proofs.Common.{◌≡◌, ◌++◌, drop, map}
use Rattle.plan_sight.specs.Sites.{symbols_in}
use Rattle.plan_table.specs.Listed.{listed_of}
use Rattle.plan_telling.specs.Symbols.{symbolic}
use Rattle.plan_telling.proofs.symbols.symbols_of.Given as goal

abbrev pub invariant-loop-listed : goal.invariant-loop-listed
invariant-loop-listed l =
    map symbolic l.symbols.items ++ symbols_in (map listed_of (drop l.listed-index l.resources))
    ≡ symbols_in (map listed_of l.resources)
