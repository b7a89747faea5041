use Rattle.std.proofs.Common.{drop}
use Rattle.bicep_symbols.proofs.SymbolLemmas.{IsSoFar}
use Rattle.bicep_symbols.proofs.registry.register.Given as goal

-- the entries so far have different names, and the rest decides
abbrev pub invariant-loop-entry : goal.invariant-loop-entry
invariant-loop-entry l = IsSoFar l.entries (drop l.entry-index l.entries) l.names l.symbols
