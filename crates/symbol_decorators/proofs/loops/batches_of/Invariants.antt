use Rattle.symbol_decorators.proofs.BatchLemmas.{Goes}
use Rattle.symbol_decorators.proofs.loops.batches_of.Given as goal

abbrev pub invariant-loop-symbol : goal.invariant-loop-symbol
invariant-loop-symbol l = Goes l.symbols l.symbol-index l.found.items
