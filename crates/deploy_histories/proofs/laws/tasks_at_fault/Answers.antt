use Rattle.deploy_histories.proofs.ReadinessLemmas.{fault_says, says_fault}
use Rattle.deploy_histories.proofs.laws.tasks_at_fault.Goals as goal

pub returns : goal.returns
returns c = λ x t p u task f. (fault_says x t p u task f, says_fault x t p u task f)
