use Rattle.plan_filling.proofs.FinalLemmas.{filled_is_final}
use Rattle.plan_filling.proofs.laws.filled_sheets_have_what_is_known.Goals as goal

pub returns : goal.returns
returns c = filled_is_final
