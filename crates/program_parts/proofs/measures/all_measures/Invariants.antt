use Rattle.program_parts.proofs.MeasureLemmas.{SoDeep}
use Rattle.program_parts.proofs.measures.all_measures.Given as goal

-- what files take with modules that are so deep in one another
abbrev pub invariant-loop : goal.invariant-loop
invariant-loop l = SoDeep l.parts l.counter l.all.items
