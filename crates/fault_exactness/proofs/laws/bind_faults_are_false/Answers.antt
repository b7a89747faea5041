use Rattle.fault_exactness.proofs.ExactLemmas.{bind_never}
use Rattle.fault_exactness.proofs.laws.bind_faults_are_false.Goals as goal

pub returns : goal.returns
returns c = λ t mode held path f start settled none h. bind_never t start path f settled none h.0 h.1.0 h.1.1
