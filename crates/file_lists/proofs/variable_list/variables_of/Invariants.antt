use Rattle.file_lists.proofs.VariableLemmas.{SoFar}
use Rattle.file_lists.proofs.variable_list.variables_of.Given as goal

-- what is made of the declarations before
abbrev pub invariant-loop-number : goal.invariant-loop-number
invariant-loop-number l = SoFar l.table l.number l.plain l.loops
