use Rattle.std.proofs.Common.{map}
use Rattle.bicep_declared.specs.View.{declared_tree}
use Rattle.bicep_symbols.specs.Entries.{symbol_of}
use Rattle.symbol_decorators.specs.View.{decorators_at}
use Rattle.parameter_rules.proofs.FileLemmas.{Goes}
use Rattle.parameter_rules.proofs.files.of_symbols.Given as goal

abbrev pub invariant-loop-number : goal.invariant-loop-number
invariant-loop-number l =
    Goes (map symbol_of l.entries) (map declared_tree l.declarations) (map decorators_at l.symbols) l.number
    l.found.items
