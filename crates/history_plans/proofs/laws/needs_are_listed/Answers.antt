use Rattle.history_plans.proofs.PlannedLemmas.{has_needs}
use Rattle.history_plans.proofs.laws.needs_are_listed.Goals as goal

pub returns : goal.returns
returns c = λ p held planned i j u v e g. has_needs p held planned i j u v e g
