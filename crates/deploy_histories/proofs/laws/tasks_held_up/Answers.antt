use Rattle.deploy_histories.proofs.ReadinessLemmas.{need_says, says_need}
use Rattle.deploy_histories.proofs.laws.tasks_held_up.Goals as goal

pub returns : goal.returns
returns c = λ x t p u task v. (need_says x t p u task v, says_need x t p u task v)
