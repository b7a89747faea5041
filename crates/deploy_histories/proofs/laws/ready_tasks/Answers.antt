use Rattle.deploy_histories.proofs.ReadinessLemmas.{ready_says, says_ready}
use Rattle.deploy_histories.proofs.laws.ready_tasks.Goals as goal

pub returns : goal.returns
returns c = λ x t p u task body. (ready_says x t p u task body, says_ready x t p u task body)
