use Rattle.std.proofs.Common.{subst}
use Rattle.measured_trees.specs.Limits.{IsBeyond}
use Rattle.program_parts.proofs.measures.limits.Goals as goal

pub returns-in-None-clause-fits : goal.returns-in-None-clause-fits
returns-in-None-clause-fits c = λ x h. subst (IsBeyond 0 x) c.in-None.is (c.beyond.ensures x h)

pub returns-in-Some-clause-fault : goal.returns-in-Some-clause-fault
returns-in-Some-clause-fault c = λ x h. record {
  limit = c.in-Some.beyond;
  fault = c.beyond_fault.ensures;
  is = subst (IsBeyond 0 x) c.in-Some.is (c.beyond.ensures x h);
}
