use Rattle.std.proofs.Common.{◌≡◌, ◌++◌, map, drop}
use Rattle.bicep_declared.specs.View.{declared_tree}
use Rattle.bicep_symbol_types.specs.Along.{none_known}
use Rattle.bicep_symbol_types.proofs.symbols.none_of.Given as goal

-- the rest goes on from what is listed
abbrev pub invariant-loop-declared : goal.invariant-loop-declared
invariant-loop-declared l =
    l.types.items ++ none_known (map declared_tree (drop l._declared-index l.declarations))
    ≡ none_known (map declared_tree l.declarations)
