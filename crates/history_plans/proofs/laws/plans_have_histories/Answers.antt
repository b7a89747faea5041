use Rattle.history_plans.proofs.PlannedLemmas.{has_histories}
use Rattle.history_plans.proofs.laws.plans_have_histories.Goals as goal

pub returns : goal.returns
returns c = λ p held planned r n. has_histories p held planned r n
