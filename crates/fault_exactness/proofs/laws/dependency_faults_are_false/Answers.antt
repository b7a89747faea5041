use Rattle.fault_exactness.proofs.ExactLemmas.{unknown_never, ambiguous_never}
use Rattle.fault_exactness.proofs.laws.dependency_faults_are_false.Goals as goal

pub returns-clause-unknown : goal.returns-clause-unknown
returns-clause-unknown c = λ t mode held path start names h. unknown_never t start path names h.0 h.1.1.0 h.1.1.1

pub returns-clause-ambiguous : goal.returns-clause-ambiguous
returns-clause-ambiguous c = λ t mode held path start names h. ambiguous_never t start path names h.0 h.1.1.0 h.1.1.1
