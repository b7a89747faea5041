use Rattle.fault_exactness.proofs.ExactLemmas.{same_never}
use Rattle.fault_exactness.proofs.laws.same_keys_are_false.Goals as goal

pub returns : goal.returns
returns c = λ t mode held first second start keys h. same_never t start first second keys h.0 h.1.1.0 h.1.1.1
