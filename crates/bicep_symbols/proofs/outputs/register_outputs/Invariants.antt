use Rattle.std.proofs.Common.{drop}
use Rattle.bicep_symbols.proofs.OutputLemmas.{IsSoFar}
use Rattle.bicep_symbols.proofs.outputs.register_outputs.Given as goal

-- the outputs so far have different names, and the rest decides
abbrev pub invariant-loop-name : goal.invariant-loop-name
invariant-loop-name l = IsSoFar l.listed (drop l.name-index l.listed) l.names l.outputs
