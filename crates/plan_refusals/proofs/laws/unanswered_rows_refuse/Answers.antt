use Rattle.plan_refusals.proofs.RefusalLemmas.{unanswered}
use Rattle.plan_refusals.proofs.laws.unanswered_rows_refuse.Goals as goal

pub returns : goal.returns
returns c = unanswered
