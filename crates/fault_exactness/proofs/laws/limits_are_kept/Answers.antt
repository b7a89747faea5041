use Rattle.fault_exactness.proofs.ExactLemmas.{limit_never}
use Rattle.fault_exactness.proofs.laws.limits_are_kept.Goals as goal

pub returns : goal.returns
returns c = λ t w n start settled counted h. limit_never t start w n settled counted h
